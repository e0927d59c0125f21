-- How the code holds things: no sentence of document 01 stands here, and no promise to a host leads here.
use Rattle.std.specs.Prelude.{ℕ, ◌+◌, ◌-◌, List, eqb, ltb, length, get_or}
use Rattle.p0_choice.specs.Choice.{pick}
use Rattle.p3_cells.specs.Cells.{blank}
use Rattle.p3_cells.specs.declared.Cell.{Cell}
use Rattle.p3_tone.specs.TonePlace.{glides, rises}
use Rattle.p3_tone.specs.declared.Seen.{Seen}

-- what the code keeps of the places of vowels
unfoldable pub seen_of : List ℕ → Seen
seen_of vs =
    record {
      count = length vs;
      first = get_or vs 0 0;
      second = get_or vs 1 0;
      third = get_or vs 2 0;
      before = get_or vs (length vs - 2) 0;
      last = get_or vs (length vs - 1) 0;
    }

-- with one more before them, at place i
abbrev pub with_first : Seen → ℕ → Seen
with_first v i =
    record {
      count = v.count + 1;
      first = i;
      second = v.first;
      third = v.second;
      before = pick (ltb v.count 2) i v.before;
      last = pick (ltb v.count 1) i v.last;
    }

-- without the first of them
abbrev pub without_first : Seen → Seen
without_first v = record { count = v.count - 1; first = v.second; second = v.third; third = v.third; before = v.before; last = v.last }

-- what `kept` and `chosen` say, of this
unfoldable pub kept_seen : ℕ → List Cell → Seen → Seen
kept_seen start s v = pick (ltb v.count 2) v (pick (eqb v.first (start + 1)) (pick (glides s) (without_first v) v) v)

unfoldable pub chosen_seen : List Cell → Seen → ℕ
chosen_seen cs v =
    pick (eqb v.count 1) v.first
    (pick (rises (get_or cs v.before blank) (get_or cs v.last blank)) v.last (pick (ltb v.count 3) v.first v.second))
