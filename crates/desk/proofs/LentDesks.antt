-- A list of lent desks, read as desks.
use Prim.Native.Nat.{ℕ, zero, suc, ◌<◌}
use mathlib.Core.Path.{◌≡◌, refl, sym, ◌∙◌, ap}
use mathlib.Core.List.{List, map}
use mathlib.Core.Bool.{Bool, true, false}
use lib.ListN.{length, get_or, set, length-map}
use Rattle.std.proofs.lemmas.List.{get_or-map, map-set}
use Rattle.std.specs.Prelude.{Some, if◌then◌else◌}
use Rattle.change.specs.declared.Request.{Request}
use Rattle.desk.specs.Desk.{Desk, fresh, held, with_desk, accepts}
use Rattle.desk.specs.Promises.{laid}
use Rattle.desk.specs.Turn.{submit_desks}

module _ {A : Type 0} {says : A → Desk} {reads : List A → List Desk} (each : (ds : List A) → reads ds ≡ map says ds) where
  pub length_reads : (ds : List A) → length (reads ds) ≡ length ds
  length_reads ds = rw each (length-map ds says)

  pub held_reads : (ds : List A) (i : ℕ) (x : A) → i < length ds → x ≡ get_or ds i x → held (reads ds) (suc i) ≡ says x
  held_reads ds i x h e = rw each (get_or-map says ds i x fresh h ∙ ap says (sym e))

  pub with_reads : (ds : List A) (j : ℕ) (x : A) → reads (with_desk ds j x) ≡ with_desk (reads ds) j (says x)
  with_reads ds zero x = refl
  with_reads ds (suc i) x = each (set ds i x) ∙ map-set says ds i x ∙ ap (λ l. set l i (says x)) (sym (each ds))

  -- read as desks, those after a submit are the ones that it leaves
  module _ (made : Desk → A) (back : (d : Desk) → says (made d) ≡ d) where
    pub laid_reads : (ds : List A) (j : ℕ) (q : Request) → reads (laid reads made ds j q) ≡ submit_desks (reads ds) j q
    unfolding submit_desks
    laid_reads ds j q = go (accepts (reads ds) j)
      where
        go : (b : Bool) → reads (if b then with_desk ds j (made (Some q)) else ds)
            ≡ (if b then with_desk (reads ds) j (Some q) else reads ds)
        go true = with_reads ds j (made (Some q)) ∙ ap (with_desk (reads ds) j) (back (Some q))
        go false = refl
