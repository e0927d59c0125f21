-- The examples hold: one claim over each table, which antt computes.
use lib.Dec.{T}
use Rattle.p0_choice.specs.Choice.{each}
use Rattle.p0_choice.specs.Text as ChoiceText
use Rattle.p0_refusals.specs.Answers as RefusalsAnswers
use Rattle.p1_letters.specs.Alphabet as LettersAlphabet
use Rattle.p1_letters.specs.Tones as LettersTones
use Rattle.p1_letters.specs.Vowels as LettersVowels
use Rattle.p2_input_method.specs.Rules as InputMethodRules
use Rattle.p3_cells.specs.Cells as CellsCells
use Rattle.p3_cells.specs.Text as CellsText
use Rattle.p3_tone.specs.TonePlace as PlacePlace
use Rattle.p3_marks.specs.Uo as MarksUo
use Rattle.p3_marks.specs.Ua as MarksUa
use Rattle.p3_marks.specs.Mark as MarksMark
use Rattle.p3_cells.specs.Leaving as CellsLeaving
use Rattle.p3_step.specs.Key as KeyKey
use Rattle.p3_key.specs.Process as KeyProcess
use Rattle.p3_calls.specs.Output as CallsOutput
use Rattle.p3_calls.specs.Settings as CallsSettings
use Rattle.p3_undo.specs.Raw as UndoRaw
use Rattle.p3_undo.specs.Undo as UndoUndo
use Rattle.p3_undo.specs.Call as UndoCall
use Rattle.p4_rows.specs.Rows as RowsRows
use Rattle.p4_rows.specs.Lookup as RowsLookup
use Rattle.p4_spelling.specs.Cut as SpellingCut
use Rattle.p4_spelling.specs.Verdict as SpellingVerdict
use Rattle.p7_examples.specs.Examples.{press, press_all, wrote_text, holds, examples, capital_examples}

both_hold : T (each holds examples) × T (each holds capital_examples)
unfolding press press_all wrote_text holds examples capital_examples RefusalsAnswers.content RefusalsAnswers.answer
    RefusalsAnswers.output CellsLeaving.leaving CallsOutput.text_outcome CallsSettings.settled CallsSettings.capitals_set
    KeyProcess.next_cells KeyProcess.written_for KeyProcess.is_full KeyProcess.key_outcome KeyProcess.key_next KeyProcess.keyed ChoiceText.word
    ChoiceText.words_from ChoiceText.words LettersAlphabet.small_by32 LettersAlphabet.small_by1 LettersAlphabet.small_high
    LettersAlphabet.small_next LettersAlphabet.is_small LettersAlphabet.is_ascii_capital LettersAlphabet.is_capital LettersAlphabet.in_alphabet
    LettersAlphabet.is_white_space LettersAlphabet.is_separator LettersAlphabet.ascii_lower LettersAlphabet.ascii_upper LettersAlphabet.lower
    LettersAlphabet.upper LettersTones.tone_rows LettersTones.tone_column LettersTones.row_of LettersTones.tone_from LettersTones.tone_on
    LettersTones.off_in LettersTones.tone_off LettersVowels.vowels LettersVowels.is_vowel LettersVowels.is_spelling_vowel
    InputMethodRules.tone_keys InputMethodRules.is_tone_key InputMethodRules.mark_rule InputMethodRules.mark_rules InputMethodRules.mark_in
    InputMethodRules.mark_for InputMethodRules.is_horn_key CellsCells.is_blank CellsCells.marks CellsCells.tones CellsCells.mark_fits
    CellsCells.tone_fits CellsCells.is_cell CellsCells.fits_at CellsCells.is_sound CellsCells.typed CellsCells.used CellsCells.composed
    CellsText.letter_of CellsText.toned_letter CellsText.flagged CellsText.shown CellsText.text_of
    PlacePlace.low_letter PlacePlace.low_base PlacePlace.any_vowel
    PlacePlace.separates PlacePlace.any_separates PlacePlace.last_syllable PlacePlace.syllable_start PlacePlace.vowel_places PlacePlace.pair_in
    PlacePlace.gliding_pair PlacePlace.glides PlacePlace.rising_pair PlacePlace.kept PlacePlace.rises PlacePlace.chosen PlacePlace.place_of
    PlacePlace.tone_place MarksUo.base_at MarksUo.uo_back MarksUo.uo_place MarksUo.horn_u MarksUo.horn_o MarksUo.uo_made MarksUa.after_q
    MarksUa.ua_place MarksUa.marked MarksUa.ua_made MarksMark.mark_back MarksMark.mark_place MarksMark.mark_made KeyKey.with_tone
    KeyKey.tone_made KeyKey.appended
    KeyKey.mark_or_later KeyKey.horn_or_later KeyKey.key_cells CallsSettings.created UndoRaw.raw_lowered UndoRaw.ends_in
    UndoRaw.pair_at UndoRaw.last_end UndoRaw.any_plain UndoRaw.active UndoUndo.last_with UndoUndo.has_tone UndoUndo.has_mark UndoUndo.rule_at
    UndoUndo.by_rules UndoUndo.tone_at UndoUndo.to_undo UndoUndo.tone_lost UndoUndo.restored UndoUndo.undone UndoCall.undo_found
    UndoCall.undo_telex RowsRows.onset_rows RowsRows.vowel_rows RowsRows.coda_rows RowsRows.onset_to_vowels RowsRows.vowels_to_coda
    RowsLookup.same_word RowsLookup.in_list RowsLookup.rows_from RowsLookup.rows_of RowsLookup.in_rows RowsLookup.allows RowsLookup.allows_any
    RowsLookup.go_together SpellingCut.before_vowel SpellingCut.vowel_run SpellingCut.is_glue SpellingCut.starts_glued SpellingCut.onset_end
    SpellingCut.vowels_end SpellingCut.onset_of SpellingCut.vowels_of SpellingCut.coda_of SpellingVerdict.has_foreign SpellingVerdict.in_rows_if_any
    SpellingVerdict.onset_fits SpellingVerdict.coda_fits SpellingVerdict.parts_fit SpellingVerdict.fits SpellingVerdict.lowered
    SpellingVerdict.toneless SpellingVerdict.verdict
both_hold = (tt, tt)

pub examples_hold : T (each holds examples)
examples_hold = both_hold.0

pub capital_examples_hold : T (each holds capital_examples)
capital_examples_hold = both_hold.1
