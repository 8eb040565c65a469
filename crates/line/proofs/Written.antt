-- What writing into a lent slice leaves: a copy into a part of it, and two calls that write one after the other.
use Rattle.std.proofs.Common.{◌≡◌, ◌∙◌, ap, refl, ℕ, suc, ◌+◌, ◌≤◌, List, [], ◌∷◌, ◌++◌, length, set, arith}
use Rattle.std.proofs.Common.{add-zero, append_assoc, drop-drop, length-append}
use Rattle.std.proofs.lemmas.List.Edits.{sets, sets-eq}
use borrow.Rule.Slice.PartMut.{put_mid}
use Rattle.line.specs.inner.Written.{Wrote}

pub wrote_copy : (bytes copy out : List ℕ) (at k : ℕ) → at + length bytes ≤ length out → copy ≡ bytes → k ≡ length bytes
    → Wrote bytes at out (at + length bytes) (put_mid at k out copy)
wrote_copy bytes copy out at k room same long =
    record {
      end = refl;
      buffer = rw (same, drop-drop k at out, long, sets-eq bytes out at room, append_assoc) refl;
    }

pub sets_append : (xs ys out : List ℕ) (at : ℕ) → sets out at (xs ++ ys) ≡ sets (sets out at xs) (at + length xs) ys
sets_append [] ys out at = rw add-zero
sets_append (a ∷ xs) ys out at =
    sets_append xs ys (set out at a) (suc at) ∙ ap (λ (n : ℕ). sets (sets out at (a ∷ xs)) n ys) (omega arith)

pub wrote_append : {xs ys : List ℕ} {at m r : ℕ} {out mid end : List ℕ}
    → Wrote xs at out m mid → Wrote ys m mid r end → Wrote (xs ++ ys) at out r end
wrote_append {xs} {ys} {at} {out = out} a b =
    record {
      end = b.end ∙ rw (a.end, length-append xs ys) (omega arith);
      buffer = b.buffer ∙ rw (a.buffer, a.end, sets_append xs ys out at);
    }
