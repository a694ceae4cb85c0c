-- An object's record in the state's words, and the words that each step leaves. Assumes nothing.
use Rattle.std.specs.Prelude.{◌≡◌, List, [], ◌∷◌, ℕ}
use Rattle.std.proofs.Math.Path.{ap}
use Rattle.std.proofs.Common.{◌∙◌}
use Rattle.std.proofs.Math.Dec.{eqb}
use Rattle.words.specs.Pick.{pick}
use Rattle.layout.specs.declared.Shape.{Shape}
use Rattle.layout.specs.Layout.{Mem, object, load, Write, Write.at, writes}
use Rattle.layout.specs.Fields.{object_koid, object_kind, object_class, object_supported, object_exportable, object_stage, object_active, object_limit}
use Rattle.layout.specs.Values.{stage_retired}
use Rattle.object.specs.declared.ObjectRecord.{ObjectRecord}
use Rattle.object.specs.Record.{no_record, with_count, activated_by, raised_by, lowered_by, retired_by}

-- the record of object o
unfoldable pub record_at : Mem → ℕ → ObjectRecord
record_at m o = record {
  koid = record { 0 = m (object o object_koid) };
  kind = m (object o object_kind);
  class = m (object o object_class);
  supported = m (object o object_supported);
  exportable = m (object o object_exportable);
  stage = m (object o object_stage);
  count = m (object o object_active);
  limit = m (object o object_limit);
}

-- what a step reads of it, in the record of no object
unfoldable pub standing_at : Mem → ℕ → ObjectRecord
standing_at m o = with_count no_record (m (object o object_stage)) (m (object o object_active))

-- its stage and its count, the two words that a step writes
abbrev pub record_p : ℕ → ObjectRecord → List Write
record_p o x = at (object o object_stage) x.stage ∷ at (object o object_active) x.count ∷ []

-- a step on the record of object o
unfoldable pub step_w : (ObjectRecord → ObjectRecord) → List ℕ → Shape → ℕ → List ℕ
step_w f ws sh o = writes ws sh (record_p o (f (record_at (load ws sh) o)))

abbrev pub activate_w : List ℕ → Shape → ℕ → List ℕ
activate_w = step_w activated_by

abbrev pub raise_w : List ℕ → Shape → ℕ → List ℕ
raise_w = step_w raised_by

abbrev pub lower_w : List ℕ → Shape → ℕ → List ℕ
lower_w = step_w lowered_by

abbrev pub retire_w : List ℕ → Shape → ℕ → List ℕ
retire_w = step_w retired_by

-- stage and count read, stepped and written back, of a step that looks at nothing else
pub step_is : (f : ObjectRecord → ObjectRecord) (ws : List ℕ) (sh : Shape) (o : ℕ) (x y : ObjectRecord) (vs : List ℕ)
    → record_p o (f (standing_at (load ws sh) o)) ≡ record_p o (f (record_at (load ws sh) o))
    → x ≡ standing_at (load ws sh) o → y ≡ f x → vs ≡ writes ws sh (record_p o y) → vs ≡ step_w f ws sh o
unfolding step_w
step_is f ws sh o x y vs e a b c = c ∙ ap (λ (z : ObjectRecord). writes ws sh (record_p o z)) (b ∙ ap f a) ∙ ap (writes ws sh) e

-- ---- refusals of one handle more

-- "9, 11" of a duplicate; 0 for none
unfoldable pub raise_refusal : Mem → ℕ → ℕ
raise_refusal m o =
    pick (eqb (record_at m o).stage stage_retired) 9
    (pick (eqb (record_at m o).count (record_at m o).limit) 11
    0)
