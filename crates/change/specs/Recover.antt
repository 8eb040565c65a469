-- Document 01, "Recover", with refusals 1, 2 and 6.
use Rattle.std.specs.Prelude.{ℕ, zero, suc, ◌+◌, ◌-◌, List, [], ◌∷◌, Bool, true, not, ◌&&◌, length, leb, ltb, eqb, if◌then◌else◌, Ok}
use Rattle.words.specs.Tests.{within}
use Rattle.words.specs.Pool.{used_at, log_at, nodes_at, pairs_at, pairs_most, list_words}
use Rattle.words.specs.declared.event.Event.{Event}
use Rattle.words.specs.Event.{at}
use Rattle.words.specs.Blocks.{Pair}
use Rattle.words.specs.declared.refusal.Refusal.TheVariants.{BadLog}
use Rattle.tree.specs.Header.{total_in, commit_of}
use Rattle.change.specs.declared.Recovery.{Recovery}
use Rattle.change.specs.declared.Recovery.TheVariants.{Clean, Recovered}
use Rattle.change.specs.Gate.{Planned, quiet, refused, past_list, past_form}
use Rattle.change.specs.Plan.{log_finished}

-- the pairs that stand in the log, n of them from word w on
unfoldable pub log_pairs : ℕ → ℕ → List ℕ → List Pair
log_pairs zero w m = []
log_pairs (suc n) w m = (at m w, at m (w + 1)) ∷ log_pairs n (w + 2) m

-- not "a pair address under 5, in 8..71, or not under total"
abbrev pub may_store : ℕ → ℕ → Bool
may_store total w = leb used_at w && not (within log_at w (nodes_at - 1)) && ltb w total

-- so for each pair
unfoldable pub all_may_store : ℕ → List Pair → Bool
all_may_store total [] = true
all_may_store total (p ∷ ps) = may_store total p.0 && all_may_store total ps

-- not 6: "recover: commit word over 31, or a pair address .."
unfoldable pub log_agrees : List ℕ → Bool
log_agrees m = leb (commit_of m) pairs_most && all_may_store (total_in m) (log_pairs (commit_of m) pairs_at m)

-- "with commit word 0, Clean, no events. Otherwise (d) and (e) from the log: Recovered with the pair count c"; 6
unfoldable pub recover_past_form : List ℕ → Planned Recovery
recover_past_form m =
    let es = log_finished (log_pairs (commit_of m) pairs_at m) in
    if eqb (commit_of m) 0 then quiet Clean
    else if not (log_agrees m) then refused BadLog
    else record { answer = Ok (Recovered (commit_of m) (length es)); events = es }

-- 1, 2, then clean, 6 or recovered
abbrev pub recover : ℕ → List ℕ → Planned Recovery
recover room m = past_list refused room (past_form refused m (recover_past_form m))

-- the events that recovery plans for a memory, with "a list of 372 words"
abbrev pub recovery : List ℕ → List Event
recovery m = (recover list_words m).events
