-- A refused call plans nothing: its list is as it was, and the event count of an answer is the length of what is planned.
use Prim.Native.Nat.{ℕ}
use mathlib.Core.Path.{◌≡◌, refl, sym, ◌∙◌, ap}
use mathlib.Core.List.{List, []}
use mathlib.Core.Bool.{Bool, true, false, not}
use lib.ListN.{length}
use lib.Dec.{ltb, eqb}
use Rattle.std.specs.Prelude.{if◌then◌else◌, Result, Ok, Err}
use Rattle.words.specs.Tests.{within}
use Rattle.words.specs.Pool.{list_words, capacity_most}
use Rattle.words.specs.Written.{written}
use Rattle.words.specs.declared.event.Event.{Event}
use Rattle.words.specs.declared.refusal.Refusal.{Refusal}
use Rattle.node.specs.Lists.{has}
use Rattle.node.specs.View.{view, keys}
use Rattle.tree.specs.Header.{form_agrees, commit_of}
use Rattle.tree.specs.Path.{Way, failed, leaf, way_to}
use Rattle.change.specs.declared.Request.{Request}
use Rattle.change.specs.declared.Request.TheVariants.{Put, Fetch, Delete}
use Rattle.change.specs.declared.Outcome.{Outcome}
use Rattle.change.specs.Gate.{Planned, refused, list_after, with_count, answered, outcome_of, events_of, past_gate, at_leaf}
use Rattle.change.specs.Format.{format, format_past_list}
use Rattle.change.specs.Recover.{recover, recover_past_form}
use Rattle.change.specs.Delete.{delete_at}
use Rattle.change.specs.Put.{put_at}
use Rattle.change.specs.Calls.{serve, serve_answer, serve_list}
use Rattle.change.proofs.Cases.{PutAt, replaces, fills, crowded, too_high, splits, put_case}

abbrev Quiet : {A : Type 0} → Planned A → Type 0
Quiet p = (why : Refusal) → p.answer ≡ Err why → p.events ≡ []

quiet_if : {A : Type 0} (b : Bool) (x y : Planned A) → Quiet x → Quiet y → Quiet (if b then x else y)
quiet_if true x y h k = h
quiet_if false x y h k = k

quiet_past : {A : Type 0} (b : Bool) (why : Refusal) (y : Planned A) → Quiet y → Quiet (if b then refused why else y)
quiet_past b why y h = quiet_if b (refused why) y (λ why e. refl) h

-- the last test, whatever it is, before an answer
quiet_end : {A : Type 0} (b : Bool) (why : Refusal) (a : A) (es : List Event)
    → Quiet (if b then refused why else record { answer = Ok a; events = es })
quiet_end b why a es = quiet_past b why _ (λ why e. cc)

quiet_gate : (m : List ℕ) (key : ℕ) (body : ℕ → List ℕ → Planned Outcome) → ((k : ℕ) (above : List ℕ) → Quiet (body k above))
    → Quiet (past_gate refused m (at_leaf body (way_to m key)))
quiet_gate m key body h =
    quiet_past (not (form_agrees m)) _ _ (quiet_past (not (eqb (commit_of m) 0)) _ _ (go (way_to m key)))
  where
    go : (w : Way) → Quiet (at_leaf body w)
    go (failed node) = λ why e. refl
    go (leaf k above) = h k above

quiet_put : (m : List ℕ) (key value k : ℕ) (above : List ℕ) → Quiet (put_at m key value k above)
quiet_put m key value k above = go (put_case m key value k above)
  where
    go : {p : Planned Outcome} → PutAt m key value k above p → Quiet p
    go (replaces t) why e = cc
    go (fills t f) why e = cc
    go (crowded t f s) why e = refl
    go (too_high n) why e = refl
    go (splits t f s) why e = cc

quiet_delete : (m : List ℕ) (key k : ℕ) (above : List ℕ) → Quiet (delete_at m key k above)
unfolding delete_at
quiet_delete m key k above = quiet_if (has key (keys (view m k).records)) _ _ (λ why e. cc) (λ why e. refl)

quiet_serve : (room : ℕ) (m : List ℕ) (q : Request) → Quiet (serve room m q)
quiet_serve room m (Put key value) = quiet_past (ltb room list_words) _ _ (quiet_gate m key _ (quiet_put m key value))
quiet_serve room m (Fetch key) = quiet_gate m key _ (λ k above why e. refl)
quiet_serve room m (Delete key) = quiet_past (ltb room list_words) _ _ (quiet_gate m key _ (quiet_delete m key))

quiet_format : (room size capacity : ℕ) → Quiet (format room size capacity)
unfolding format_past_list
quiet_format room size capacity =
    quiet_past (ltb room list_words) _ _ (quiet_past (not (within 1 capacity capacity_most)) _ _
    (quiet_end _ _ _ _))

quiet_recover : (room : ℕ) (m : List ℕ) → Quiet (recover room m)
unfolding recover_past_form
quiet_recover room m =
    quiet_past (ltb room list_words) _ _ (quiet_past (not (form_agrees m)) _ _
    (quiet_if (eqb (commit_of m) 0) _ _ (λ why e. refl) (quiet_end _ _ _ _)))

-- then the lent list is as it was
kept : {A : Type 0} (p : Planned A) (l : List ℕ) → Quiet p → (why : Refusal) → p.answer ≡ Err why → list_after p l ≡ l
unfolding written
kept p l h why e = rw (h why e)

pub format_kept : (room size capacity : ℕ) (l : List ℕ) (why : Refusal) → (format room size capacity).answer ≡ Err why
    → list_after (format room size capacity) l ≡ l
format_kept room size capacity l = kept _ l (quiet_format room size capacity)

pub recover_kept : (room : ℕ) (m l : List ℕ) (why : Refusal) → (recover room m).answer ≡ Err why → list_after (recover room m) l ≡ l
recover_kept room m l = kept _ l (quiet_recover room m)

-- an answer's outcome is that of its plan
pub outcome_answered : (p : Planned Outcome) → outcome_of (answered p) ≡ p.answer
outcome_answered p = go p.answer _
  where
    go : (o : Result Outcome Refusal) (n : ℕ) → outcome_of (with_count o n) ≡ o
    go (Ok o) n = refl
    go (Err why) n = refl

pub serve_kept : (m l : List ℕ) (q : Request) (why : Refusal) → serve_answer m l q ≡ Err why
    → (events_of (serve_answer m l q) ≡ 0) × (serve_list m l q ≡ l)
serve_kept m l q why e =
    let p = serve (length l) m q in
    (ap events_of e, kept p l (quiet_serve (length l) m q) why (sym (outcome_answered p) ∙ ap outcome_of e))

pub serve_counted : (m l : List ℕ) (q : Request) → events_of (serve_answer m l q) ≡ length (serve (length l) m q).events
serve_counted m l q = go (serve (length l) m q).answer refl
  where
    go : (o : Result Outcome Refusal) → (serve (length l) m q).answer ≡ o
        → events_of (answered (serve (length l) m q)) ≡ length (serve (length l) m q).events
    go (Ok o) e = rw e
    go (Err why) e = rw (e, quiet_serve (length l) m q why e)
