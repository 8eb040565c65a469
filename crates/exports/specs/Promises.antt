-- "Every public call promises its answer and each word of pool, list, marks .. for all inputs, refusals too": the exported calls. Pool and
-- list are m and l before the call, and m' and l' after it, where it may change them; r is the reply, in words. (Carrying out all events:
-- `CarryAllPromise` of words.)
use Rattle.std.specs.Prelude.{ℕ, ◌≡◌, List}
use Rattle.words.specs.Event.{event_at}
use Rattle.words.specs.Carry.{carried, after}
use Rattle.change.specs.Calls as c
use Rattle.exports.specs.declared.reply.Reply.{Reply}
use Rattle.exports.specs.declared.reply.Verdict.{Verdict}
use Rattle.exports.specs.Replies as d

abbrev pub FormatPromise : List ℕ → List ℕ → ℕ → Reply → List ℕ → Type 0
FormatPromise m l capacity r l' = (r ≡ d.format_reply (c.format_answer m l capacity)) × (l' ≡ c.format_list m l capacity)

abbrev pub RecoverPromise : List ℕ → List ℕ → Reply → List ℕ → Type 0
RecoverPromise m l r l' = (r ≡ d.recovery_reply (c.recover_answer m l)) × (l' ≡ c.recover_list m l)

abbrev pub FetchPromise : List ℕ → ℕ → Reply → Type 0
FetchPromise m key r = r ≡ d.outcome_reply (c.fetch_answer m key) 0

abbrev pub PutPromise : List ℕ → List ℕ → ℕ → ℕ → Reply → List ℕ → Type 0
PutPromise m l key value r l' = (r ≡ d.answer_reply (c.put_answer m l key value)) × (l' ≡ c.put_list m l key value)

abbrev pub DeletePromise : List ℕ → List ℕ → ℕ → Reply → List ℕ → Type 0
DeletePromise m l key r l' = (r ≡ d.answer_reply (c.delete_answer m l key)) × (l' ≡ c.delete_list m l key)

-- the marks are g before the call and g' after it
abbrev pub CheckPromise : List ℕ → List ℕ → Verdict → List ℕ → Type 0
CheckPromise m g r g' = (r ≡ d.verdict (c.check_answer m g)) × (g' ≡ c.check_marks m g)

abbrev pub CarryPromise : List ℕ → List ℕ → ℕ → Reply → List ℕ → Type 0
CarryPromise m l n r m' = (r ≡ d.carried_reply (carried m (event_at l n))) × (m' ≡ after m (event_at l n))
