-- Demand 3 of the table: it holds the listed words and no others, so `nth listing` numbers them from 0 to 5,962, and the word
-- at number `up_to listing w` follows w. A word is accepted exactly if its lower-case toneless form has a number.
use Prim.Native.Nat.{ℕ, ◌<◌}
use mathlib.Core.Path.{◌≡◌, sym, ap, ◌∙◌, subst}
use lib.Dec.{T, eqb}
use Rattle.p4_rows.specs.Rows.{Word}
use Rattle.p4_spelling.specs.Verdict.{verdict}
use Rattle.p4_spelling.proofs.Letters.{plain_letter}
use Rattle.p5_trie.specs.Mirror.{trie_size, nth}
use Rattle.p5_trie.specs.Numbering.{Many, Named}
use Rattle.p5_trie.proofs.Tests.{in_trie}
use Rattle.p5_trie.proofs.Words.{Numbered, sorted, numbered, every_nth, letters_nth}
use Rattle.p5_trie.proofs.Numbering as Tries
use Rattle.p5_trie.proofs.Unique.{has_name, name_has}
use Rattle.p5_listing.specs.Listed.{plain, Listed}
use Rattle.p5_listing.specs.Mirror.{listing}
use Rattle.p5_listing.specs.Counts.{word_count}
use Rattle.p5_listing.proofs.Plain.{Toneless, core, plain_again, each_plain, plain_toneless, verdict_core, verdict_plain}
use Rattle.p5_listing.proofs.Quick.{quick, quick_core_lem}
use Rattle.p5_listing.proofs.Computed.{size_listing, sorted_listing, all_accepted}
use Rattle.p5_listing.proofs.Complete.{core_held}
use Rattle.p5_listing.proofs.Nodes.{listing_plain}

number_plain : (n : ℕ) → n < trie_size listing → plain (nth listing n) ≡ nth listing n
number_plain n h = each_plain (nth listing n) (letters_nth (λ (x : ℕ). eqb (plain_letter x) x) listing listing_plain n h)

-- a plain word's verdict, as the tests have it
pub verdict_quick : (u : Word) → plain u ≡ u → verdict u ≡ quick u
verdict_quick u e = verdict_core u ∙ ap core e ∙ sym (quick_core_lem u (subst Toneless e (plain_toneless u)))

number_listed : (n : ℕ) → n < trie_size listing → Listed (nth listing n)
number_listed n h = record {
  accepted = rw (verdict_quick (nth listing n) (number_plain n h)) (every_nth listing quick all_accepted n h);
  is_plain = number_plain n h;
}

held_listed : (u : Word) → T (in_trie listing u) → Listed u
held_listed u h = let r : Numbered listing u = numbered listing u h in subst Listed r.is (number_listed r.number r.small)

listed_held : (u : Word) → Listed u → T (in_trie listing u)
listed_held u l =
    let t : T (core (plain u)) = rw (verdict_core u) at l.accepted in
    rw l.is_plain at (core_held (plain u) (plain_toneless u) t)

pub lists : Tries.Lists Listed listing
lists = record { sorted = sorted listing sorted_listing; only = held_listed; all = listed_held }

pub listed_many : Many Listed word_count
listed_many = Tries.many lists word_count size_listing

-- "A word is accepted exactly if its lower-case toneless form is listed."
pub accepted_has_number : (w : Word) → T (verdict w) → (n : ℕ) × Named Listed n (plain w)
accepted_has_number w t =
    has_name word_count listed_many (plain w) (record { accepted = rw (verdict_plain w) t; is_plain = plain_again w })

pub number_is_accepted : (w : Word) (n : ℕ) → Named Listed n (plain w) → T (verdict w)
number_is_accepted w n a = rw (verdict_plain w) at (name_has n (plain w) a).accepted
