use Rattle.std.proofs.Common.{arith}
use Rattle.p4_note_line.proofs.Words.{left_length, gap_next, gap_last, gap_begins, gap_counts, word_next, word_some, word_counts}
use Rattle.p4_note_line.proofs.+gap_word.Goals as goal

pub gap-word-requires : goal.gap-word-requires
gap-word-requires t c =
    let e = c.gap_run-run.ensures.value in
    let l = left_length c.args.rest.now c.gap_run-run.result c.gap_run-run.ensures.within in
    (omega (arith, l), (gap_counts _ _ _ _ e c.requires, gap_begins _ 0 _ c.args.told.now e c.if-run-rest.true))

pub gap-returns-then-run-rest : goal.gap-returns-then-run-rest
gap-returns-then-run-rest t c = gap_next _ _ _ _ c.gap_run-run.ensures.value _ c.word.ensures

pub gap-returns-else-run-rest : goal.gap-returns-else-run-rest
gap-returns-else-run-rest t c = gap_last _ _ _ _ c.gap_run-run.ensures.value c.if-run-rest.false

pub word-gap-requires : goal.word-gap-requires
word-gap-requires t c =
    let e = c.word_run-run.ensures.value in
    let m = word_some _ 0 _ c.args.told.now c.requires.begins e in
    let l = left_length c.args.rest.now c.word_run-run.result c.word_run-run.ensures.within in
    (omega (arith, l, m), word_counts _ _ _ _ c.requires.begins e _ _ c.add.ensures c.requires.room)

pub word-returns : goal.word-returns
word-returns t c =
    word_next _ _ _ _ c.requires.begins c.word_run-run.ensures.value _ _ _ c.accepts-yes.ensures c.add.ensures c.gap.ensures
