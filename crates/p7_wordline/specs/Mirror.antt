-- How the code holds things: no sentence of document 01 stands here, and no promise to a host leads here.
-- The turns of the program: a read, and what its bytes hold and print.
use Rattle.std.specs.Prelude.{ℕ, min, ◌≡◌, Bool, true, false, List, [], eqb, ℤ, pos, negsuc, take, Option, None, Some, Result, Ok, Err, is_ok}
use Rattle.std.specs.IoError.{raw_os_error}
use Rattle.std.specs.declared.io.Error.{Error}
use Rattle.p0_choice.specs.Choice.{pick}
use Rattle.p7_feed.specs.Mirror.{state, state_of, parts_to}
use Rattle.p7_feed.specs.declared.Carry.{Carry}
use Rattle.p7_feed.specs.declared.Phase.{Phase}
use Rattle.p7_feed.specs.declared.Phase.TheVariants.{Start, Keys, Ended}
use Rattle.p7_wordline.specs.declared.Input.{Input}
use Rattle.p7_wordline.specs.declared.Input.TheVariants.{Bytes, NoMore, Interrupted, Failed}
use Rattle.p7_wordline.specs.declared.Took.{Took}

-- What a read into a part of n bytes gave, by its answer and, where that is an error, by the number of the error: 4, EINTR,
-- for one that a signal cut short. Only an answer of 0 is the end of the input.
unfoldable pub failure : Error → Option ℤ → Input
failure error None = Failed error
failure error (Some (pos k)) = pick (eqb k 4) Interrupted (Failed error)
failure error (Some (negsuc k)) = Failed error

unfoldable pub input_of : Result ℕ Error → ℕ → Input
input_of (Ok k) n = pick (eqb k 0) NoMore (Bytes (min k n))
input_of (Err error) n = failure error (raw_os_error error)

-- the bytes that it left, at the start of the part
unfoldable pub amount : Input → ℕ
amount (Bytes k) = k
amount NoMore = 0
amount Interrupted = 0
amount (Failed error) = 0

unfoldable pub bytes_read : Input → List ℕ → List ℕ
bytes_read input part = take (amount input) part

-- "A refused method line prints its refusal and ends the run."
unfoldable pub is_over : Phase → Bool
is_over Start = false
is_over (Keys m) = false
is_over Ended = true

-- Whether there is another read: not after a write that failed, nor where the run is over, nor where there is no more to
-- read or it can not be read.
unfoldable pub may_read : Input → Bool
may_read (Bytes k) = true
may_read NoMore = false
may_read Interrupted = true
may_read (Failed error) = false

unfoldable pub goes_on : Took → Phase → Bool
goes_on t phase = pick (is_ok t.wrote) (pick (is_over phase) false (may_read t.input)) false

-- What is held of the line at hand, and the phase, are what the run makes of parts: those that the reads left, each after
-- the earlier ones.
unfoldable pub Came : Carry → Type 0
Came c = (parts : List (List ℕ)) × (state_of c ≡ parts_to (state [] Start) parts)
