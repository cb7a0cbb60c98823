use Rattle.elf_base.specs.declared.error.ElfError.TheVariants.{TextEnd, TextStart}
use Rattle.elf_base.specs.Text.{BytesError}
use Rattle.elf_base.proofs.Texts.{bytes-ended, bytes-failed, ends_in_zero, no_zero_from, text_of-bytes, text_of-error}
use Rattle.elf_base.proofs.bytes.text.bytes_up_to_zero.Goals as goal

pub returns-then-start-data : goal.returns-then-start-data
returns-then-start-data c =
    let exact = bytes-failed c.args.data.now c.args.start TextStart c.if-start-data.true in
    record { bytes = tt; place = tt; failed = c.if-start-data.true; as_text = text_of-error c.args.data.now c.args.start TextStart exact; exact = exact }

pub returns-in-None : goal.returns-in-None
returns-in-None c =
    let none : BytesError c.args.data.now c.args.start TextEnd = (c.if-start-data.false, no_zero_from c.args.data.now c.args.start c.if-start-data.false c.in-None.ensures) in
    let exact = bytes-failed c.args.data.now c.args.start TextEnd none in
    record { bytes = tt; place = tt; failed = none; as_text = text_of-error c.args.data.now c.args.start TextEnd exact; exact = exact }

pub returns-in-Some-clause-bytes : goal.returns-in-Some-clause-bytes
returns-in-Some-clause-bytes c = ends_in_zero c.args.data.now c.args.start c.in-Some.end c.in-Some.ensures.0 c.in-Some.ensures.1

pub returns-in-Some-clause-exact : goal.returns-in-Some-clause-exact
returns-in-Some-clause-exact c = bytes-ended c.args.data.now c.args.start _ (returns-in-Some-clause-bytes c)

pub returns-in-Some-clause-as_text : goal.returns-in-Some-clause-as_text
returns-in-Some-clause-as_text c = text_of-bytes c.args.data.now c.args.start _ (returns-in-Some-clause-exact c)
