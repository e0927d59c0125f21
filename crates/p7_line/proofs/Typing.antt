-- A line of keys on a fresh composition, key by key: what is left of the line decides.
use Rattle.std.specs.Prelude.{Err, Ok}
use Prim.Native.Nat.{ℕ, ◌+◌, ◌<◌, ◌≤◌}
use mathlib.Core.Path.{◌≡◌, refl, sym, ap, ◌∙◌, subst}
use mathlib.Core.Bool.{Bool, true, false}
use mathlib.Core.List.{List, [], ◌∷◌}
use native.Mathlib.Omega.{arith}
use native.Mathlib.Numerals.{add-one}
use lib.Dec.{ltb}
use lib.ListN.{length, get_or, take, drop, drop_of_length-le}
use lib.Seq.{drop-cons, take_at}
use borrow.Author.Tests.{lt-ltb, le-ltb, ltb-true, ltb-false}
use Rattle.p0_choice.specs.Choice.{pick}
use Rattle.p0_refusals.specs.Answers.{writes, refuses, answer, output}
use Rattle.p0_refusals.proofs.Answers.{refuses_answer, writes_answer, writes_output}
use Rattle.p0_refusals.specs.declared.Refusal.{Refusal}
use Rattle.p0_refusals.specs.declared.Refusal.TheVariants.{Full}
use Rattle.p1_letters.specs.Alphabet.{in_alphabet, all_letters}
use Rattle.p2_input_method.specs.declared.InputMethod.{InputMethod}
use Rattle.p3_cells.specs.Cells.{limit, is_sound, used, composed, holding}
use Rattle.p3_cells.specs.Text.{text_of}
use Rattle.p3_cells.specs.Leaving.{leaving}
use Rattle.p3_cells.specs.declared.Composition.{Composition}
use Rattle.p3_cells.specs.declared.Mode.{Mode}
use Rattle.p3_cells.specs.declared.Mode.TheVariants.{Vietnamese}
use Rattle.p3_cells.specs.declared.Settings.{Settings}
use Rattle.p3_cells.specs.Settings.{at_first}
use Rattle.p3_calls.specs.Settings.{created}
use Rattle.p3_calls.proofs.Kept.{new_sound}
use Rattle.p3_cells.proofs.Holding.{used_held, settings_held, used_cells}
use Rattle.p3_step.specs.Key.{key_cells}
use Rattle.p3_key.specs.Process.{in_mode, next_cells, written_for, is_full, key_outcome, key_next, keyed}
use Rattle.p3_cells.specs.declared.After.{After}
use Rattle.p3_key.proofs.Kept.{key_sound}
use Rattle.p5_utf8_text.proofs.Alphabet.{all_at}
use Rattle.p7_line.specs.Line.{made, full, keys_made, made_line, refused_line, text_line}
use Rattle.p3_cells.proofs.InAlphabet.{text_letters}
use Rattle.p3_cells.proofs.Text.{text_length}

-- ---- one key, on a sound Vietnamese composition with a place lent for each cell
module _ (c : Composition) (k : ℕ) (o : List ℕ) (s : is_sound c ≡ true) (v : c.settings.mode ≡ Vietnamese)
    (a : in_alphabet k ≡ true) (l : length o ≡ limit) where
  -- the text of the cells after it
  abbrev next : List ℕ
  next = text_of c.settings.capitals (next_cells c k)

  -- what there is to write
  outcome : key_outcome c k ≡ pick (ltb limit (length (next_cells c k))) (refuses Full) (writes next)
  unfolding key_outcome is_full written_for
  outcome =
      rw (s, a)
      (ap (λ (x : Mode). pick (in_mode x (ltb limit (length (next_cells c k))) false) (refuses Full)
      (writes (in_mode x next (k ∷ [])))) v)

  full_key : limit < length (next_cells c k) → key_outcome c k ≡ refuses Full
  full_key h = outcome ∙ rw (lt-ltb limit (length (next_cells c k)) h) refl

  done_key : length (next_cells c k) ≤ limit → key_outcome c k ≡ writes next
  done_key h = outcome ∙ rw (le-ltb limit (length (next_cells c k)) h) refl

  room : length (next_cells c k) ≤ limit → length next ≤ length o
  room h = omega (arith, text_length c.settings.capitals (next_cells c k))

  -- 2, and nothing else
  key_full : (r : Refusal) → answer (key_outcome c k) (length o) ≡ Err r → (limit < length (next_cells c k)) × (r ≡ Full)
  key_full r q = go (ltb limit (length (next_cells c k))) refl
    where
      go : (b : Bool) → ltb limit (length (next_cells c k)) ≡ b → (limit < length (next_cells c k)) × (r ≡ Full)
      go true e =
          let h = ltb-true limit (length (next_cells c k)) e in
          let w : Err Full ≡ Err r = refuses_answer _ _ (full_key h) (length o) ∙ q in
          (h, cc)
      go false e =
          let h = ltb-false limit (length (next_cells c k)) e in
          let w : Ok (length next) ≡ Err r = writes_answer _ _ (done_key h) (length o) _ (room h) refl ∙ q in
          let z : ◌≡◌ {A = ℕ} 0 1 = cc in absurd (omega arith)

  module _ (n : ℕ) (q : answer (key_outcome c k) (length o) ≡ Ok n) where
    key_done : length (next_cells c k) ≤ limit
    key_done = go (ltb limit (length (next_cells c k))) refl
      where
        go : (b : Bool) → ltb limit (length (next_cells c k)) ≡ b → length (next_cells c k) ≤ limit
        go true e =
            let w : Err Full ≡ Ok n = refuses_answer _ _ (full_key (ltb-true limit (length (next_cells c k)) e)) (length o) ∙ q in
            let z : ◌≡◌ {A = ℕ} 0 1 = cc in absurd (omega arith)
        go false e = ltb-false limit (length (next_cells c k)) e

    key_count : length next ≡ n
    key_count =
        let w : Ok (length next) ≡ Ok n =
        writes_answer _ _ (done_key key_done) (length o) _ (room key_done) refl ∙ q in
        cc

    key_comp : (keyed c k (length o)).comp ≡ holding c (next_cells c k)
    unfolding keyed leaving key_next
    key_comp = rw q (ap (λ (x : Mode). in_mode x (holding c (next_cells c k)) c) v)

    key_text : take n (output (key_outcome c k) o) ≡ next
    key_text =
        rw (← writes_output _ _ (done_key key_done) o _ (room key_done) refl)
        (take_at next (drop (length next) o) n key_count)

-- ---- the line
pub record Typing (z : Settings) (keys : List ℕ) (c : Composition) (text : List ℕ) (n i : ℕ) : Type 0 where
  pub sound : is_sound c ≡ true
  pub settings : c.settings ≡ z
  pub mode : z.mode ≡ Vietnamese
  pub rest : keys_made z [] keys ≡ keys_made z (used c) (drop i keys)
  pub shown : take n text ≡ text_of z.capitals (used c)

typing_start : (m : InputMethod) (keys text : List ℕ) → Typing (at_first m) keys (created m) text 0 0
unfolding created composed used text_of
typing_start m keys text =
    record { sound = new_sound m; settings = refl; mode = refl; rest = refl; shown = refl }

module _ (z : Settings) (keys : List ℕ) (c : Composition) (text : List ℕ) (n i : ℕ) (t : Typing z keys c text n i) where
  pub typing_done : length keys ≤ i → keys_made z [] keys ≡ made (used c)
  unfolding keys_made
  typing_done h = t.rest ∙ rw (drop_of_length-le keys h) refl

  module _ (a : all_letters keys ≡ true) (h : i < length keys) (l : length text ≡ limit) (k : ℕ) (e : k ≡ get_or keys i 0) where
    letter : in_alphabet k ≡ true
    letter = rw e (all_at keys i a h)

    cells_next : next_cells c k ≡ key_cells z (used c) k
    unfolding next_cells
    cells_next = rw t.settings refl

    mode : c.settings.mode ≡ Vietnamese
    mode = rw t.settings t.mode

    turn : keys_made z [] keys ≡ pick (ltb limit (length (next_cells c k))) full (keys_made z (next_cells c k) (drop (i + 1) keys))
    unfolding keys_made
    turn = t.rest ∙ rw (add-one i, drop-cons keys i 0 h, ← e, ← cells_next) refl

    pub typing_full : (y : After) (r : Refusal) → y ≡ keyed c k (length text) → y.answer ≡ Err r
        → (keys_made z [] keys ≡ full) × (r ≡ Full)
    unfolding keyed leaving
    typing_full y r d q =
        let w = key_full c k text t.sound mode letter l r (sym (ap (λ (z : After). z.answer) d) ∙ q) in
        (turn ∙ rw (lt-ltb limit (length (next_cells c k)) w.0) refl, w.1)

    pub typing_on : (y : After) (j : ℕ) (new : List ℕ) → y ≡ keyed c k (length text) → y.answer ≡ Ok j
        → new ≡ output (key_outcome c k) text → Typing z keys y.comp new j (i + 1)
    unfolding keyed leaving
    typing_on y j new d q f =
        let g : answer (key_outcome c k) (length text) ≡ Ok j = sym (ap (λ (z : After). z.answer) d) ∙ q in
        let w = key_done c k text t.sound mode letter l j g in
        let b : y.comp ≡ holding c (next_cells c k) = ap (λ (z : After). z.comp) d ∙ key_comp c k text t.sound mode letter l j g in
        let u : used y.comp ≡ next_cells c k = ap used b ∙ used_held c.settings (next_cells c k) in
        let p : y.comp ≡ (keyed c k (length text)).comp = ap (λ (z : After). z.comp) d in
        record {
          sound = rw p (key_sound c k (length text) t.sound);
          settings = ap (λ (d : Composition). d.settings) b ∙ settings_held c.settings (next_cells c k) ∙ t.settings;
          mode = t.mode;
          rest = turn ∙ rw (le-ltb limit (length (next_cells c k)) w, u) refl;
          shown = rw (f, u, ← t.settings) (key_text c k text t.sound mode letter l j g);
        }

-- ---- what the line prints; the composition began as c₀, new with the method
module _ (m : InputMethod) (keys : List ℕ) (c₀ : Composition) (e : c₀ ≡ created m) where
  begun : c₀.settings ≡ at_first m
  unfolding created composed
  begun = ap (λ (d : Composition). d.settings) e

  pub typing_first : (text : List ℕ) → Typing c₀.settings keys c₀ text 0 0
  unfolding created composed
  typing_first text = subst (λ (d : Composition). Typing d.settings keys d text 0 0) (sym e) (typing_start m keys text)

  module _ (c : Composition) (text : List ℕ) (n i : ℕ) (t : Typing c₀.settings keys c text n i) where
    pub line_refused : all_letters keys ≡ true → i < length keys → length text ≡ limit → (k : ℕ) → k ≡ get_or keys i 0
        → (y : After) (r : Refusal) → y ≡ keyed c k (length text)
        → y.answer ≡ Err r → made_line (at_first m) (keys_made (at_first m) [] keys) ≡ refused_line r
    unfolding made_line
    line_refused a h l k q y r d f =
        let w = typing_full c₀.settings keys c text n i t a h l k q y r d f in
        rw (← begun, w.0, w.1) refl

    pub line_typed : length keys ≤ i → made_line (at_first m) (keys_made (at_first m) [] keys) ≡ text_line (take n text)
    unfolding made_line
    line_typed h = rw (← begun, typing_done c₀.settings keys c text n i t h, t.shown) refl

    pub typed_letters : all_letters (take n text) ≡ true
    typed_letters = ap all_letters t.shown ∙ text_letters c₀.settings.capitals (used c) (used_cells c t.sound)
