-- Quoted text as code points, so that definitions have their letters as document 01 writes them: `word "qu"` is a text's, and
-- `code "u"` one character's.
use Rattle.std.specs.Prelude.{ℕ, List, [], ◌∷◌, ◌++◌, eqb}
use Prim.Native.String.{String}
use Prim.Native.String.{[] as end, ◌∷◌ as ◌then◌}
use Prim.Native.Char.{code}
use Rattle.p0_choice.specs.Choice.{pick}

-- the code points of a text
unfoldable pub word : String → List ℕ
word end = []
word (c then s) = code c ∷ word s

-- the words of a row, as its blanks part them; w is what was read of the word at hand
unfoldable pub words_from : List ℕ → String → List (List ℕ)
words_from w end = w ∷ []
words_from w (c then s) = pick (eqb (code c) (code " ")) (w ∷ words_from [] s) (words_from (w ++ (code c ∷ [])) s)

unfoldable pub words : String → List (List ℕ)
unfolding words_from
words s = words_from [] s

-- U+000A, at which a line ends
abbrev pub line_end : ℕ
line_end = 0x0a
