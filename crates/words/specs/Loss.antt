-- Document 01, "Events and the rule of loss": what each word may hold after a cut.
use Rattle.std.specs.Prelude.{ℕ, ◌<◌, ◌≡◌, ◌⊎◌, List, [], ◌∷◌, ◌++◌, length}
use Rattle.words.specs.Pool.{line}
use Rattle.words.specs.declared.event.Event.{Event}
use Rattle.words.specs.declared.event.Event.TheVariants.{Store as store, Flush as flush, Fence as fence}
use Rattle.words.specs.Event.{at, run}

-- the event stores v to word w
abbrev pub IsStore : ℕ → ℕ → Event → Type 0
IsStore w v (store a u) = (a ≡ w) × (u ≡ v)
IsStore w v (flush l) = ⊥
IsStore w v fence = ⊥

-- the event flushes line l
abbrev pub IsFlush : ℕ → Event → Type 0
IsFlush l (store a u) = ⊥
IsFlush l (flush k) = k ≡ l
IsFlush l fence = ⊥

abbrev pub IsFence : Event → Type 0
IsFence (store a u) = ⊥
IsFence (flush l) = ⊥
IsFence fence = Unit {0}

-- some event of the list is such
abbrev pub Some : (Event → Type 0) → List Event → Type 0
Some P [] = ⊥
Some P (e ∷ es) = P e ⊎ Some P es

-- the list has a "flush of [line l] that a later fence followed"
abbrev pub Kept : ℕ → List Event → Type 0
Kept l [] = ⊥
Kept l (e ∷ es) = (IsFlush l e × Some IsFence es) ⊎ Kept l es

-- the events, done and then since, are parted at "the last flush of its line that a later fence followed": done ends with that flush,
-- a fence comes since, and since has no such flush; if there is none at all, since has every event
pub record Parted (w : ℕ) (done since : List Event) : Type 0 where
  pub last : ¬ Kept (line w) since
  pub from : (done ≡ []) ⊎ ((r : List Event) × (done ≡ r ++ flush (line w) ∷ []) × Some IsFence since)

-- word w of m may hold v after es and a cut: "the value it had at the last flush of its line that a later fence followed (its starting
-- value if none), or any value stored to it after that flush"
pub record MayHold (m : List ℕ) (es : List Event) (w v : ℕ) : Type 0 where
  pub done : List Event
  pub since : List Event
  pub all : done ++ since ≡ es
  pub parted : Parted w done since
  pub holds : (v ≡ at (run m done) w) ⊎ Some (IsStore w v) since

-- "A word is safe if only one value is left."
abbrev pub Safe : List ℕ → List Event → ℕ → Type 0
Safe m es w = (u v : ℕ) → MayHold m es w u → MayHold m es w v → u ≡ v

-- m' may be found once es were carried out on m and the power was cut: "each word independently holds" what it may
pub record Cut (m : List ℕ) (es : List Event) (m' : List ℕ) : Type 0 where
  pub size : length m' ≡ length m
  pub word : (w : ℕ) → w < length m → MayHold m es w (at m' w)
