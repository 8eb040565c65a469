-- Each call on a pool: its answer, and every lent word that it may change, of the pool m, the event list l and the marks as they were
-- lent. The planning calls leave the pool as it was. (Carrying out one event: `carried` and `after` of words.)
use Rattle.std.specs.Prelude.{ℕ, List, length, Result}
use Rattle.words.specs.declared.refusal.Refusal.{Refusal}
use Rattle.change.specs.declared.Request.{Request}
use Rattle.change.specs.declared.Request.TheVariants.{Put, Fetch, Delete}
use Rattle.change.specs.declared.Outcome.{Outcome}
use Rattle.change.specs.declared.Answer.{Answer}
use Rattle.change.specs.declared.Recovery.{Recovery}
use Rattle.change.specs.declared.Checked.{Checked}
use Rattle.change.specs.Gate.{Planned, list_after, answered}
use Rattle.change.specs.Format.{format}
use Rattle.change.specs.Recover.{recover}
use Rattle.change.specs.Fetch.{fetch}
use Rattle.change.specs.Delete.{delete}
use Rattle.change.specs.Put.{put}
use Rattle.change.specs.Check.{check}

-- format: its answer
abbrev pub format_answer : List ℕ → List ℕ → ℕ → Result ℕ Refusal
format_answer m l capacity = (format (length l) (length m) capacity).answer

-- format: the list after it
abbrev pub format_list : List ℕ → List ℕ → ℕ → List ℕ
format_list m l capacity = list_after (format (length l) (length m) capacity) l

-- recover: its answer
abbrev pub recover_answer : List ℕ → List ℕ → Result Recovery Refusal
recover_answer m l = (recover (length l) m).answer

-- recover: the list after it
abbrev pub recover_list : List ℕ → List ℕ → List ℕ
recover_list m l = list_after (recover (length l) m) l

-- fetch: its answer; it is lent no list
abbrev pub fetch_answer : List ℕ → ℕ → Result Outcome Refusal
fetch_answer m key = (fetch m key).answer

-- put: its answer
abbrev pub put_answer : List ℕ → List ℕ → ℕ → ℕ → Result Answer Refusal
put_answer m l key value = answered (put (length l) m key value)

-- put: the list after it
abbrev pub put_list : List ℕ → List ℕ → ℕ → ℕ → List ℕ
put_list m l key value = list_after (put (length l) m key value) l

-- delete: its answer
abbrev pub delete_answer : List ℕ → List ℕ → ℕ → Result Answer Refusal
delete_answer m l key = answered (delete (length l) m key)

-- delete: the list after it
abbrev pub delete_list : List ℕ → List ℕ → ℕ → List ℕ
delete_list m l key = list_after (delete (length l) m key) l

-- check: its answer
abbrev pub check_answer : List ℕ → List ℕ → Result Checked Refusal
check_answer m marks = (check m marks).answer

-- check: the marks after it
abbrev pub check_marks : List ℕ → List ℕ → List ℕ
check_marks m marks = (check m marks).marks

-- the key that a request names
abbrev pub key_of : Request → ℕ
key_of (Put key value) = key
key_of (Fetch key) = key
key_of (Delete key) = key

-- "each empty or holding one put, fetch or delete": a request is served by its own call
abbrev pub serve : ℕ → List ℕ → Request → Planned Outcome
serve room m (Put key value) = put room m key value
serve room m (Fetch key) = fetch m key
serve room m (Delete key) = delete room m key

-- serving a request: its answer
abbrev pub serve_answer : List ℕ → List ℕ → Request → Result Answer Refusal
serve_answer m l q = answered (serve (length l) m q)

-- serving a request: the list after it
abbrev pub serve_list : List ℕ → List ℕ → Request → List ℕ
serve_list m l q = list_after (serve (length l) m q) l
