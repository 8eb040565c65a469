-- Format, return by return.
use Prim.Native.Nat.{ℕ, ◌≤◌, ◌<◌}
use mathlib.Core.Path.{◌≡◌, ◌∙◌}
use mathlib.Core.Bool.{true, false}
use lib.ListN.{length}
use borrow.Author.Tests.{lt-ltb, le-ltb}
use Rattle.std.specs.Prelude.{Ok, Err}
use Rattle.words.specs.Tests.{within}
use Rattle.words.specs.Pool.{capacity_most, total_of}
use Rattle.words.specs.declared.refusal.Refusal.{Refusal}
use Rattle.words.specs.declared.refusal.Refusal.TheVariants.{BadCapacity, ShortSlice}
use Rattle.change.specs.Gate.{refused}
use Rattle.change.specs.Format.{format, format_events, format_past_list}
use Rattle.pool.proofs.Gates.{list_test, list_shut, list_open}

module _ (room size capacity : ℕ) where
  pub format_short : {why : Refusal} → Err why ≡ list_test room → format room size capacity ≡ refused why
  format_short e = list_shut refused (format_past_list size capacity) room e

  module _ {u : Unit {0}} (long : Ok u ≡ list_test room) where
    past : format room size capacity ≡ format_past_list size capacity
    past = list_open refused (format_past_list size capacity) room long

    pub format_outside : within 1 capacity capacity_most ≡ false → format room size capacity ≡ refused BadCapacity
    unfolding format_past_list
    format_outside w = past ∙ rw w

    module _ (w : within 1 capacity capacity_most ≡ true) where
      pub format_small : size < total_of capacity → format room size capacity ≡ refused ShortSlice
      unfolding format_past_list
      format_small h = past ∙ rw (w, lt-ltb _ _ h)

      pub format_planned : total_of capacity ≤ size
          → format room size capacity ≡ record { answer = Ok (length (format_events capacity)); events = format_events capacity }
      unfolding format_past_list
      format_planned h = past ∙ rw (w, le-ltb _ _ h)
