-- The finite list of the memories that a cut may leave: each is one of them, and each of them may be left.
use Prim.Native.Nat.{ℕ, zero, suc, ◌+◌, ◌<◌}
use mathlib.Core.Path.{◌≡◌, refl, sym, ap}
use mathlib.Core.Logic.{⊎_elim}
use mathlib.Core.Bool.{Bool, true, false, ◌&&◌, ◌||◌}
use mathlib.Core.List.{List, [], ◌∷◌, ◌++◌, map}
use mathlib.Core.List.Memᴰ.{head as here}
use mathlib.Core.List.Memᴰ.{tail as there}
use mathlib.Core.List.{Memᴰ as In}
use mathlib.Core.List.Memᴰ
use lib.ListN.{length}
use lib.Dec.{T}
use lib.Ieee.Bits.{is_true}
use native.Mathlib.Nat.{zero-add, add-zero, suc_inj}
use native.Mathlib.Omega.{arith}
use Rattle.words.specs.declared.event.Event.{Event}
use Rattle.words.specs.Event.{at}
use Rattle.words.specs.Loss.{Cut}
use Rattle.words.proofs.Tests.{both_hold}
use Rattle.words.proofs.Values.{values, values_exact}

abbrev before : ℕ → List ℕ → List ℕ
before v m = v ∷ m

-- each value before each list
unfoldable pub with_each : List ℕ → List (List ℕ) → List (List ℕ)
with_each [] ms = []
with_each (v ∷ vs) ms = map (before v) ms ++ with_each vs ms

with_each_in : {y : ℕ} {ys : List ℕ} {vs : List ℕ} {ms : List (List ℕ)} → In y vs → In ys ms → In (y ∷ ys) (with_each vs ms)
unfolding with_each
with_each_in {y} {ys} {ms = ms} (here {x} {xs} e) k =
    Memᴰ.append_left (with_each xs ms) (Memᴰ.cast (ap (λ (z : ℕ). z ∷ ys) e) (Memᴰ.map (before x) k))
with_each_in {ms = ms} (there {x} {xs} h) k = Memᴰ.append_right (map (before x) ms) (with_each_in h k)

-- z is one of the values before one of the lists
record Joined (z vs : List ℕ) (ms : List (List ℕ)) : Type 0 where
  value : ℕ
  list : List ℕ
  whole : z ≡ value ∷ list
  value_in : In value vs
  list_in : In list ms

with_each_out : {z : List ℕ} (vs : List ℕ) (ms : List (List ℕ)) → In z (with_each vs ms) → Joined z vs ms
unfolding with_each
with_each_out [] ms h = absurd (Memᴰ.not-nil h)
with_each_out {z} (v ∷ vs) ms h = ⊎_elim now (λ k. later (with_each_out vs ms k)) (Memᴰ.append_cases (map (before v) ms) h)
  where
    now : In z (map (before v) ms) → Joined z (v ∷ vs) ms
    now k =
        let r = Memᴰ.of_map (before v) ms k in
        record { value = v; list = r.0; whole = sym r.2; value_in = here refl; list_in = r.1 }

    later : Joined z vs ms → Joined z (v ∷ vs) ms
    later r = record { value = r.value; list = r.list; whole = r.whole; value_in = there r.value_in; list_in = r.list_in }

-- every memory that a cut may leave, of the words xs from word w on
unfoldable pub cuts_from : ℕ → List ℕ → List Event → List (List ℕ)
cuts_from w [] es = [] ∷ []
cuts_from w (x ∷ xs) es = with_each (values w x es) (cuts_from (suc w) xs es)

-- the list: for each word any of its values, independently
unfoldable pub cuts : List ℕ → List Event → List (List ℕ)
unfolding cuts_from with_each values
cuts m es = cuts_from 0 m es

-- each word of ys, from word w on, has one of its values
record Picked (w : ℕ) (xs : List ℕ) (es : List Event) (ys : List ℕ) : Type 0 where
  size : length ys ≡ length xs
  each : (i : ℕ) → i < length xs → In (at ys i) (values (w + i) (at xs i) es)

picked_in : (w : ℕ) (xs : List ℕ) (es : List Event) (ys : List ℕ) → Picked w xs es ys → In ys (cuts_from w xs es)
unfolding cuts_from
picked_in w [] es [] p = here refl
picked_in w [] es (y ∷ ys) p = absurd (let e = p.size in omega arith)
picked_in w (x ∷ xs) es [] p = absurd (let e = p.size in omega arith)
picked_in w (x ∷ xs) es (y ∷ ys) p =
    with_each_in (rw add-zero at (p.each 0 (omega arith))) (picked_in (suc w) xs es ys (record { size = suc_inj p.size; each = rest }))
  where
    rest : (i : ℕ) → i < length xs → In (at ys i) (values (suc w + i) (at xs i) es)
    rest i b = let e : suc w + i ≡ w + suc i = omega arith in rw e (p.each (suc i) (omega arith))

in_picked : (w : ℕ) (xs : List ℕ) (es : List Event) (ys : List ℕ) → In ys (cuts_from w xs es) → Picked w xs es ys
unfolding cuts_from
in_picked w [] es ys h = record { size = ap length (Memᴰ.eq_of_singleton h); each = λ i b. absurd (omega arith) }
in_picked w (x ∷ xs) es ys h =
    let j = with_each_out (values w x es) (cuts_from (suc w) xs es) h in
    go j (in_picked (suc w) xs es j.list j.list_in)
  where
    go : (j : Joined ys (values w x es) (cuts_from (suc w) xs es)) → Picked (suc w) xs es j.list → Picked w (x ∷ xs) es ys
    go j p = rw j.whole (record { size = ap suc p.size; each = each })
      where
        each : (i : ℕ) → i < suc (length xs) → In (at (j.value ∷ j.list) i) (values (w + i) (at (x ∷ xs) i) es)
        each zero b = rw add-zero j.value_in
        each (suc i) b = let e : w + suc i ≡ suc w + i = omega arith in rw e (p.each i (omega arith))

pub cuts_all : {m m' : List ℕ} {es : List Event} → Cut m es m' → In m' (cuts m es)
unfolding cuts
cuts_all {m} {m'} {es} c =
    picked_in 0 m es m' (record { size = c.size; each = λ w b. rw zero-add ((values_exact m es w (at m' w) b).1 (c.word w b)) })

pub cuts_only : (m : List ℕ) (es : List Event) {m' : List ℕ} → In m' (cuts m es) → Cut m es m'
unfolding cuts
cuts_only m es {m'} h =
    let p = in_picked 0 m es m' h in
    record { size = p.size; word = λ w b. (values_exact m es w (at m' w) b).0 (rw zero-add at (p.each w b)) }

-- a test that passes at every memory of the list passes at what is found
abbrev pub every : (List ℕ → Bool) → List (List ℕ) → Bool
every f [] = true
every f (m ∷ ms) = f m && every f ms

every_in : (f : List ℕ → Bool) {m : List ℕ} {ms : List (List ℕ)} → In m ms → T (every f ms) → f m ≡ true
every_in f (here {x} {xs} e) t = rw e (is_true (f x) (both_hold (f x) (every f xs) t).0)
every_in f (there {x} {xs} h) t = every_in f h (both_hold (f x) (every f xs) t).1

pub every_cut : (f : List ℕ → Bool) (m : List ℕ) (es : List Event) → T (every f (cuts m es)) → {m' : List ℕ} → Cut m es m' → f m' ≡ true
every_cut f m es t c = every_in f (cuts_all c) t

-- a test that passes at one of the list passes after some cut
unfoldable pub any : (List ℕ → Bool) → List (List ℕ) → Bool
any f [] = false
any f (m ∷ ms) = f m || any f ms

any_in : (f : List ℕ → Bool) (ms : List (List ℕ)) → T (any f ms) → (m : List ℕ) × In m ms × (f m ≡ true)
unfolding any
any_in f [] t = absurd t
any_in f (m ∷ ms) t = go (any_in f ms) (f m) refl
  where
    go : (T (any f ms) → (m : List ℕ) × In m ms × (f m ≡ true)) → (b : Bool) → f m ≡ b
        → (m' : List ℕ) × In m' (m ∷ ms) × (f m' ≡ true)
    go r true e = (m, here refl, e)
    go r false e = let t' : T (any f ms) = rw e at t in let x = r t' in (x.0, there x.1, x.2)

pub some_cut : (f : List ℕ → Bool) (m : List ℕ) (es : List Event) → T (any f (cuts m es)) → (m' : List ℕ) × Cut m es m' × (f m' ≡ true)
some_cut f m es t = let x = any_in f (cuts m es) t in (x.0, cuts_only m es x.1, x.2)
