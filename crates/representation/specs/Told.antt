-- What words tell of links, marks, lifecycles, stages and frames. Assumes nothing.
use Rattle.std.specs.Prelude.{◌≡◌, refl, Bool, true, false, List, ℕ, suc, ◌+◌, ◌*◌, ◌/◌, ◌^◌, ◌≤◌, ◌<◌, eqb}
use Rattle.std.proofs.Math.Option.{Option, none, some}
use Rattle.std.proofs.Common.{arith, eq-eqb, ne_eqb, lt-ltb}
use Rattle.words.specs.Pick.{clash}
use Rattle.words.specs.Words.{Small}
use Rattle.model.specs.State.{till, Lifecycle, Lifecycle.active, Lifecycle.tearing_down, Lifecycle.retired, is_active, Slot, Slot.absent, Slot.vacant, Slot.reserved, Slot.transfer_reserved, Slot.occupied, is_vacant, Class, Class.leaf, Class.rendezvous_only, Class.never, Stage, Stage.still_new, Stage.now_active, Stage.now_retired, max_slots}
use Rattle.model.specs.Objects.{is_now_retired}
use Rattle.model.specs.Storage.{slots_of}
use Rattle.layout.specs.declared.Shape.{Shape}
use Rattle.layout.specs.Layout.{Addr, Mem, head, entry, load}
use Rattle.layout.specs.Fields.{head_pages, entry_frame}
use Rattle.layout.specs.Values.{tag_reserved, tag_transfer_reserved, life_active, stage_retired, class_never}
use Rattle.layout.specs.Sizes.{page_size}
use Rattle.representation.specs.Represents.{entry_at, link_of, frame_of, LifeIs, class_word, stage_word, is_marked}

pub link_some : (x : Option ℕ) (f : ℕ) → link_of x ≡ suc f → x ≡ some f
link_some none f e = absurd (omega arith)
link_some (some g) f e = let y : g ≡ f = omega arith in rw y

-- the tag of a kind of mark: true for Reserved
abbrev pub tag_of : Bool → ℕ
tag_of true = tag_reserved
tag_of false = tag_transfer_reserved

pub marked_full : (x : Slot) → is_marked x ≡ true → is_vacant x ≡ false
marked_full absent e = refl
marked_full (vacant g) e = clash e refl
marked_full (reserved g i) e = refl
marked_full (transfer_reserved g i) e = refl
marked_full (occupied g h) e = refl

pub class_small : (c : Class) → class_word c ≤ class_never
class_small leaf = omega arith
class_small rendezvous_only = omega arith
class_small never = omega arith

pub life_tells : (w c : ℕ) (l : Lifecycle) → LifeIs w c l → eqb w life_active ≡ is_active l
life_tells w c active e = eq-eqb w life_active e
life_tells w c (tearing_down n) e = ne_eqb w life_active (λ z. omega arith)
life_tells w c retired e = ne_eqb w life_active (λ z. omega arith)

pub retired_tells : (g : Stage) → eqb (stage_word g) stage_retired ≡ is_now_retired g
retired_tells still_new = refl
retired_tells now_active = refl
retired_tells now_retired = refl

-- the frame of slot j of page p
pub frame_at : (m : Mem) (b p j : ℕ) → p < m (head b head_pages) → j < slots_of till p → frame_of m b (p * page_size + j) ≡ m (entry (entry_at m b p) entry_frame)
frame_at m b p j h i =
    let a : (p * page_size + j) / page_size ≡ p = omega arith in
    rw (a, lt-ltb (p * page_size + j) max_slots (omega arith), lt-ltb p (m (head b head_pages)) h)

pub load_small : (ws : List ℕ) (sh : Shape) → Small ws → (a : Addr) → load ws sh a < 2 ^ 64
unfolding load
load_small ws sh h a = h _
