-- What calls that write events one after the other have written.
use Prim.Native.Nat.{ℕ, ◌+◌}
use mathlib.Core.Path.{◌≡◌, ◌∙◌, ap, refl}
use mathlib.Core.List.{List, [], ◌∷◌, ◌++◌}
use native.Mathlib.Nat.{add-zero}
use native.Mathlib.Omega.{arith}
use lib.ListN.{length, length-append, length-set}
use Rattle.words.specs.declared.write.EventList.{EventList}
use Rattle.words.specs.declared.event.Event.{Event}
use Rattle.words.specs.Written.{written_one, written, Wrote}

pub written_append : (es fs : List Event) (n : ℕ) (l : List ℕ) → written (es ++ fs) n l ≡ written fs (n + length es) (written es n l)
unfolding written
written_append [] fs n l = rw (add-zero n) refl
written_append (e ∷ es) fs n l =
    written_append es fs (n + 1) (written_one e n l) ∙ ap (λ (m : ℕ). written fs m (written (e ∷ es) n l)) (omega arith)

pub length_written : (es : List Event) (n : ℕ) (l : List ℕ) → length (written es n l) ≡ length l
unfolding written
length_written [] n l = refl
length_written (e ∷ es) n l = length_written es (n + 1) (written_one e n l) ∙ simp length-set

-- one event, from its two words
pub wrote_one : (e : Event) {a b : EventList} → b.words.ghost_name ≡ a.words.ghost_name → b.events ≡ a.events + 1
    → b.words.now ≡ written_one e a.events a.words.now → Wrote (e ∷ []) a b
unfolding written
wrote_one e same next list = record { same = same; next = next; list = list }

-- two calls, one after the other
pub wrote_append : {es fs : List Event} {a b c : EventList} → Wrote es a b → Wrote fs b c → Wrote (es ++ fs) a c
wrote_append {es} {fs} {a} v w =
    record {
      same = w.same ∙ v.same;
      next = w.next ∙ rw (v.next, length-append es fs) (omega arith);
      list = w.list ∙ rw (v.list, v.next, written_append es fs a.events a.words.now) refl;
    }

-- all that was written into a list, from its first event on
pub wrote_all : {es : List Event} {a b : EventList} {l l' : List ℕ} → Wrote es a b → a.words.now ≡ l → a.events ≡ 0 → l' ≡ b.words.now
    → l' ≡ written es 0 l
wrote_all w l n e = e ∙ w.list ∙ rw (l, n) refl
