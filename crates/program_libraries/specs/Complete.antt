-- Whether a program gets all libraries and versions that it needs (this project's own).
use Rattle.std.specs.Prelude.{◌&&◌, ◌==◌, ℕ, Bool, List, cond}
use Rattle.program_libraries.specs.NeededNames.{AreNamesFound}
use Rattle.program_libraries.specs.NeededVersions.{AreVersionsMet}
use Rattle.program_libraries.specs.declared.objects.Object.{Object}
use Rattle.program_libraries.specs.declared.store.StoredFile.{StoredFile}

-- each name found an object, and each version that is needed of such an object is met
pub record IsComplete (files : List StoredFile) (objects : List Object) : Type 0 where
  pub names : AreNamesFound files objects
  pub versions : AreVersionsMet files objects

-- a status, which isn't 0 if a library is missing
abbrev pub with_missing : Bool → ℕ → ℕ
with_missing missing status = cond (missing && (status == 0)) 1 status
