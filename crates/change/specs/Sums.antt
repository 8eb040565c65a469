-- Document 01, "Sums done by hand": the rows marked P, as one table under one claim. What was worked out by hand stands on the left,
-- what the definitions compute on the right.
use Rattle.std.specs.Prelude.{ℕ, ◌≡◌, ◌⊎◌, List, [], ◌∷◌, ◌++◌, length, take, replicate, eqb, if◌then◌else◌}
use Rattle.words.specs.Pool.{total_of, commit_at, list_words}
use Rattle.words.specs.Kinds as k
use Rattle.words.specs.Answers.{Said}
use Rattle.words.specs.declared.event.Event.{Event}
use Rattle.words.specs.declared.event.Event.TheVariants.{Store as store, Flush as flush, Fence as fence}
use Rattle.words.specs.Event.{at, run}
use Rattle.words.specs.Loss.{Cut}
use Rattle.node.specs.View.{Record, view, keys, slot_at, key_at}
use Rattle.tree.specs.Header.{root_of}
use Rattle.tree.specs.Map.{records_of}
use Rattle.change.specs.declared.Outcome.{Outcome}
use Rattle.change.specs.Answers.{outcome_says, format_says, recovery_says}
use Rattle.change.specs.Gate.{Planned}
use Rattle.change.specs.Format.{format}
use Rattle.change.specs.Recover.{recover}
use Rattle.change.specs.Delete.{delete}
use Rattle.change.specs.Put.{put}

-- a pool after all events of a plan
abbrev pub done : {A : Type 0} → Planned A → List ℕ → List ℕ
done p m = run m p.events

-- "a fresh pool": zeroes, formatted
unfoldable pub fresh : ℕ → List ℕ
fresh capacity = done (format list_words (total_of capacity) capacity) (replicate (total_of capacity) 0)

-- a put, with the key for its value
abbrev pub put_key : List ℕ → ℕ → Planned Outcome
put_key m key = put list_words m key key

-- puts one after the other
unfoldable pub put_all : List ℕ → List ℕ → List ℕ
put_all m [] = m
put_all m (key ∷ ks) = put_all (done (put_key m key) m) ks

-- "10, 20, .. 70 put in rising order into a fresh pool"
unfoldable pub seven : ℕ → List ℕ
seven capacity = put_all (fresh capacity) (10 ∷ 20 ∷ 30 ∷ 40 ∷ 50 ∷ 60 ∷ 70 ∷ [])

-- "then delete 30"
unfoldable pub less_30 : List ℕ
less_30 = done (delete list_words (seven 3) 30) (seven 3)

-- "then put 35", of 7 events
unfoldable pub putting_35 : List Event
putting_35 = (put_key less_30 35).events

-- and the pool after it
unfoldable pub with_35 : List ℕ
with_35 = run less_30 putting_35

-- "into the full leaf"
unfoldable pub splitting : ℕ → List Event
splitting key = (put_key (seven 3) key).events

-- and the pool after it
unfoldable pub split_by : ℕ → List ℕ
split_by key = run (seven 3) (splitting key)

-- the pairs of a split: what it first stores to the commit word
unfoldable pub pairs_in : List Event → ℕ
pairs_in [] = 0
pairs_in (store w v ∷ es) = if eqb w commit_at then v else pairs_in es
pairs_in (flush l ∷ es) = pairs_in es
pairs_in (fence ∷ es) = pairs_in es

-- the records that a pool holds once it is recovered
unfoldable pub recovered : List ℕ → List Record
recovered m = records_of (done (recover list_words m) m)

-- the records before the put of 35
abbrev pub before : List Record
before = (10, 10) ∷ (20, 20) ∷ (40, 40) ∷ (50, 50) ∷ (60, 60) ∷ (70, 70) ∷ []

-- and after it
abbrev pub after : List Record
after = (10, 10) ∷ (20, 20) ∷ (35, 35) ∷ (40, 40) ∷ (50, 50) ∷ (60, 60) ∷ (70, 70) ∷ []

-- what a cut may leave
pub data Left : Type 0 where
  before_only : Left
  either : Left
  after_only : Left

-- a row: numbers by hand, and computed; what an answer says; what a cut of the put of 35 after so many events leaves
pub data Row : Type 0 where
  numbers : List ℕ → List ℕ → Row
  says : Said → Said → Row
  cut_after : ℕ → Left → Row

-- m' may be found after a cut of the put of 35 after n events
abbrev pub CutAfter : ℕ → List ℕ → Type 0
CutAfter n m' = Cut less_30 (take n putting_35) m'

-- some cut leaves these records
abbrev pub Leaves : ℕ → List Record → Type 0
Leaves n rs = (m' : List ℕ) × CutAfter n m' × (recovered m' ≡ rs)

-- the row is right: "before only", "either" (each cut leaves one of the two, and both occur), "after only"
abbrev pub Agrees : Row → Type 0
Agrees (numbers by_hand computed) = by_hand ≡ computed
Agrees (says by_hand computed) = by_hand ≡ computed
Agrees (cut_after n before_only) = (m' : List ℕ) → CutAfter n m' → recovered m' ≡ before
Agrees (cut_after n either) =
    ((m' : List ℕ) → CutAfter n m' → (recovered m' ≡ before) ⊎ (recovered m' ≡ after)) × Leaves n before × Leaves n after
Agrees (cut_after n after_only) = (m' : List ℕ) → CutAfter n m' → recovered m' ≡ after

-- each row is right
abbrev pub AllAgree : List Row → Type 0
AllAgree [] = Unit {0}
AllAgree (r ∷ rs) = Agrees r × AllAgree rs

-- "10, 20, .. 70 put in rising order into a fresh pool"; "then delete 30"; "then put 35: entry 2"
unfoldable pub leaf_rows : List Row
leaf_rows =
    numbers (0x0605040302010007 ∷ []) (at (seven 3) (slot_at 1) ∷ [])
    ∷ numbers (0x0006050403010006 ∷ []) (at less_30 (slot_at 1) ∷ [])
    ∷ numbers (35 ∷ 0x0605040302010007 ∷ []) (at with_35 (key_at 1 2) ∷ at with_35 (slot_at 1) ∷ [])
    ∷ []

-- "80 into the full leaf: nodes 1, 2 both .., root 3 with key 50, 47 events, 5 pairs"; "5 instead of 80: node 1 .., key 40 goes up, 55
-- events, 7 pairs"
unfoldable pub split_rows : List Row
split_rows =
    numbers (0x0302010004 ∷ 0x0302010004 ∷ []) (at (split_by 80) (slot_at 1) ∷ at (split_by 80) (slot_at 2) ∷ [])
    ∷ numbers (3 ∷ 50 ∷ []) (root_of (split_by 80) ∷ keys (view (split_by 80) 3).records)
    ∷ numbers (47 ∷ 5 ∷ []) (length (splitting 80) ∷ pairs_in (splitting 80) ∷ [])
    ∷ numbers (0x0201000304 ∷ []) (at (split_by 5) (slot_at 1) ∷ [])
    ∷ numbers (40 ∷ []) (keys (view (split_by 5) 3).records)
    ∷ numbers (55 ∷ 7 ∷ []) (length (splitting 5) ∷ pairs_in (splitting 5) ∷ [])
    ∷ []

-- "capacity 2, leaf full, new key: refusal 5; capacity 3 takes it"; "replacing there: 3 events"
unfoldable pub room_rows : List Row
room_rows =
    says (k.refused, 5, []) (outcome_says (put_key (seven 2) 80).answer)
    ∷ says (k.new, 0, []) (outcome_says (put_key (seven 3) 80).answer)
    ∷ says (k.replaced, 0, []) (outcome_says (put_key (seven 2) 30).answer)
    ∷ numbers (3 ∷ []) (length (put_key (seven 2) 30).events ∷ [])
    ∷ []

-- "capacity 0 and 40,001: 7"; "capacity 1 in 87 words: 8; in 88: formatted"; "list of 371 words: 1"
unfoldable pub refusal_rows : List Row
refusal_rows =
    says (k.refused, 7, []) (format_says (format list_words 88 0).answer)
    ∷ says (k.refused, 7, []) (format_says (format list_words 88 40001).answer)
    ∷ says (k.refused, 8, []) (format_says (format list_words 87 1).answer)
    ∷ says (k.formatted, 0, 20 ∷ []) (format_says (format list_words 88 1).answer)
    ∷ says (k.refused, 1, []) (format_says (format 371 88 1).answer)
    ∷ says (k.refused, 1, []) (recovery_says (recover 371 (fresh 1)).answer)
    ∷ says (k.refused, 1, []) (outcome_says (put 371 (fresh 1) 10 10).answer)
    ∷ says (k.refused, 1, []) (outcome_says (delete 371 (fresh 1) 10).answer)
    ∷ []

-- "put of 7 events cut after 4: before only; after 5 or 6: either; after 7: after only"
unfoldable pub cut_rows : List Row
cut_rows =
    numbers (7 ∷ []) (length putting_35 ∷ [])
    ∷ cut_after 4 before_only
    ∷ cut_after 5 either
    ∷ cut_after 6 either
    ∷ cut_after 7 after_only
    ∷ []

-- "The P cases are proved of the definitions together, as a single table under one claim"
unfoldable pub rows : List Row
rows = leaf_rows ++ (split_rows ++ (room_rows ++ (refusal_rows ++ cut_rows)))

-- the claim
abbrev pub Sums : Type 0
Sums = AllAgree rows
