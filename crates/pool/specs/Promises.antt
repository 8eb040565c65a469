-- "Every public call promises its answer and each word of pool, list, marks .. for all inputs, refusals too." Each call is lent the pool m
-- only to read, and answers r; carrying out one event alone changes it (words: `CarryPromise`). The list is l before the call and l'
-- after it.
use Rattle.std.specs.Prelude.{ℕ, ◌≡◌, List, Result}
use Rattle.words.specs.declared.refusal.Refusal.{Refusal}
use Rattle.change.specs.declared.Request.{Request}
use Rattle.change.specs.declared.Outcome.{Outcome}
use Rattle.change.specs.declared.Answer.{Answer}
use Rattle.change.specs.declared.Recovery.{Recovery}
use Rattle.change.specs.declared.Checked.{Checked}
use Rattle.change.specs.Answers.{outcome_says, answer_says, format_says, recovery_says, check_says}
use Rattle.change.specs.Calls as c

abbrev pub FormatPromise : List ℕ → List ℕ → ℕ → Result ℕ Refusal → List ℕ → Type 0
FormatPromise m l capacity r l' = (format_says r ≡ format_says (c.format_answer m l capacity)) × (l' ≡ c.format_list m l capacity)

abbrev pub RecoverPromise : List ℕ → List ℕ → Result Recovery Refusal → List ℕ → Type 0
RecoverPromise m l r l' = (recovery_says r ≡ recovery_says (c.recover_answer m l)) × (l' ≡ c.recover_list m l)

abbrev pub FetchPromise : List ℕ → ℕ → Result Outcome Refusal → Type 0
FetchPromise m key r = outcome_says r ≡ outcome_says (c.fetch_answer m key)

abbrev pub PutPromise : List ℕ → List ℕ → ℕ → ℕ → Result Answer Refusal → List ℕ → Type 0
PutPromise m l key value r l' = (answer_says r ≡ answer_says (c.put_answer m l key value)) × (l' ≡ c.put_list m l key value)

abbrev pub DeletePromise : List ℕ → List ℕ → ℕ → Result Answer Refusal → List ℕ → Type 0
DeletePromise m l key r l' = (answer_says r ≡ answer_says (c.delete_answer m l key)) × (l' ≡ c.delete_list m l key)

abbrev pub ServePromise : List ℕ → List ℕ → Request → Result Answer Refusal → List ℕ → Type 0
ServePromise m l q r l' = (answer_says r ≡ answer_says (c.serve_answer m l q)) × (l' ≡ c.serve_list m l q)

-- the marks are g before the call and g' after it
abbrev pub CheckPromise : List ℕ → List ℕ → Result Checked Refusal → List ℕ → Type 0
CheckPromise m g r g' = (check_says r ≡ check_says (c.check_answer m g)) × (g' ≡ c.check_marks m g)
