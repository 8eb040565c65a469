-- Two memories that agree on some of their words.
use Prim.Native.Nat.{ℕ, ◌<◌}
use mathlib.Core.Path.{◌≡◌, refl, sym, ◌∙◌}
use mathlib.Core.Logic.{◌⊎◌, inl, inr, ◌≢◌}
use mathlib.Core.List.{List}
use lib.ListN.{length, get_or-eq_default}
use lib.Seq.{ext_get_or}
use native.Mathlib.Decide.{ℕ_discrete, dec_lt}
use native.Mathlib.Omega.{arith}
use Rattle.words.specs.declared.event.Event.{Event}
use Rattle.words.specs.Event.{at, run}
use Rattle.words.proofs.Events.{Stores, length_run, run_off, run_agree}

-- one length, and the same value in each word of P
pub record Agree (P : ℕ → Type 0) (m n : List ℕ) : Type 0 where
  pub size : length m ≡ length n
  pub words : (w : ℕ) → P w → at m w ≡ at n w

-- words past the end need no proof
pub agree_inside : {P : ℕ → Type 0} {m n : List ℕ} → length m ≡ length n
    → ((w : ℕ) → w < length n → P w → at m w ≡ at n w) → Agree P m n
agree_inside {P} {m} {n} e f = record { size = e; words = λ w p. go w p (dec_lt w (length n)) }
  where
    go : (w : ℕ) → P w → Dec (w < length n) → at m w ≡ at n w
    go w p (yes h) = f w h p
    go w p (no h) = get_or-eq_default m 0 (omega arith) ∙ sym (get_or-eq_default n 0 (omega arith))

pub agree_self : {P : ℕ → Type 0} {m : List ℕ} → Agree P m m
agree_self = record { size = refl; words = λ w p. refl }

pub agree_eq : {P : ℕ → Type 0} {m n : List ℕ} → m ≡ n → Agree P m n
agree_eq e = rw e agree_self

pub agree_sym : {P : ℕ → Type 0} {m n : List ℕ} → Agree P m n → Agree P n m
agree_sym a = record { size = sym a.size; words = λ w p. sym (a.words w p) }

pub agree_trans : {P : ℕ → Type 0} {l m n : List ℕ} → Agree P l m → Agree P m n → Agree P l n
agree_trans a b = record { size = a.size ∙ b.size; words = λ w p. a.words w p ∙ b.words w p }

pub agree_weaken : {P Q : ℕ → Type 0} {m n : List ℕ} → ((w : ℕ) → Q w → P w) → Agree P m n → Agree Q m n
agree_weaken f a = record { size = a.size; words = λ w q. a.words w (f w q) }

-- memories that agree everywhere are one
pub agree_all : {P : ℕ → Type 0} {m n : List ℕ} → ((w : ℕ) → P w) → Agree P m n → m ≡ n
agree_all {P} {m} {n} f a = ext_get_or 0 m n a.size (λ w h. a.words w (f w))

pub agree_but : {w : ℕ} {m n : List ℕ} → Agree (λ x. w ≢ x) m n → at m w ≡ at n w → m ≡ n
agree_but {w} {m} {n} a e = ext_get_or 0 m n a.size (λ x h. go x (ℕ_discrete w x))
  where
    go : (x : ℕ) → Dec (w ≡ x) → at m x ≡ at n x
    go x (yes k) = rw k at e
    go x (no k) = a.words x k

-- running a list changes nothing off the words that it stores to ..
pub agree_off : (m : List ℕ) (s : List Event) → Agree (λ w. ¬ Stores w s) (run m s) m
agree_off m s = record { size = length_run m s; words = run_off m s }

-- .. and keeps what agrees, and leaves the same in each word that it stores to
pub agree_run : {P : ℕ → Type 0} {m n : List ℕ} (s : List Event) → Agree P m n → Agree (λ w. P w ⊎ Stores w s) (run m s) (run n s)
agree_run {P} {m} {n} s a =
    agree_inside (length_run m s ∙ a.size ∙ sym (length_run n s)) (λ w h p. go w (rw length_run at h) p)
  where
    go : (w : ℕ) → w < length n → P w ⊎ Stores w s → at (run m s) w ≡ at (run n s) w
    go w h (inl p) = run_agree m n s w (rw a.size h) h (inl (a.words w p))
    go w h (inr k) = run_agree m n s w (rw a.size h) h (inr k)
