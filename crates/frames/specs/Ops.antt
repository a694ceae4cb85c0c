-- The operations on the pool: what the words are after each, and the lowest free frame. Assumes nothing.
use Rattle.std.specs.Prelude.{◌≡◌, Bool, true, false, not, List, [], ◌∷◌, eqb}
use Rattle.std.proofs.Common.{sym, ⊎_elim, add-one}
use Prim.Native.Nat.{ℕ, zero, suc, ◌+◌, ◌-◌, ◌*◌, ◌/◌, ◌≤◌, ◌<◌}
use native.Mathlib.Omega.{arith}
use Rattle.words.specs.Pick.{pick, yes_is, no_is}
use Rattle.layout.specs.declared.Shape.{Shape}
use Rattle.layout.specs.Layout.{Addr.reg, Mem, root, owner, group, load, Write, Write.at, writes}
use Rattle.layout.specs.Fields.{root_free_frames}
use Rattle.layout.specs.RegionNames.{region_owner, region_group16, region_group256, region_group4096}
use Rattle.storage.specs.Order.{same?}
use Rattle.storage.specs.Ops.{up}
use Rattle.frames.specs.Pool.{down}

-- ---- one frame

-- the words of frame f in the pool: its owner, the counts of its three groups, and the count of all
abbrev pub pool_p : ℕ → ℕ → ℕ → ℕ → ℕ → ℕ → List Write
pool_p f o a b c n = at (owner f) o ∷ at (group 0 (f / 16)) a ∷ at (group 1 (f / 256)) b ∷ at (group 2 (f / 4096)) c ∷ at (root root_free_frames) n ∷ []

-- the owner is o, and each count goes on by a step
unfoldable pub step_p : (ℕ → ℕ) → Mem → ℕ → ℕ → List Write
step_p step m f o = pool_p f o (step (m (group 0 (f / 16)))) (step (m (group 1 (f / 256)))) (step (m (group 2 (f / 4096)))) (step (m (root root_free_frames)))

-- frame f is taken, and o is its owner word
unfoldable pub take_frame_w : List ℕ → Shape → ℕ → ℕ → List ℕ
take_frame_w ws sh f o = writes ws sh (step_p down (load ws sh) f o)

-- frame f is given back
unfoldable pub give_frame_w : List ℕ → Shape → ℕ → List ℕ
give_frame_w ws sh f = writes ws sh (step_p up (load ws sh) f 0)

-- ---- the lowest free frame

-- the first of n numbers from x on that passes; x + n if none does
unfoldable pub first_of : (ℕ → Bool) → ℕ → ℕ → ℕ
first_of p x zero = x
first_of p x (suc n) = pick (p x) x (first_of p (suc x) n)

-- whether number x of region k has a free frame: an owner is 0, a count is not
abbrev pub has_free : Mem → ℕ → ℕ → Bool
has_free m k x = pick (eqb k region_owner) (eqb (m (reg k x 0 0)) 0) (not (eqb (m (reg k x 0 0)) 0))

-- the first group of 4,096 with a free frame, its first of 256, its first of 16, and the first free frame in it
unfoldable pub lowest_at : Mem → ℕ
lowest_at m = first_of (has_free m region_owner) (first_of (has_free m region_group16) (first_of (has_free m region_group256) (first_of (has_free m region_group4096) 0 16 * 16) 16 * 16) 16 * 16) 16

-- the loop of `first_free`: number x of those up to e, and after the last
pub first_step : (p : ℕ → Bool) (x e : ℕ) → x < e → first_of p x (e - x) ≡ pick (p x) x (first_of p (x + 1) (e - (x + 1)))
unfolding first_of
first_step p x e l = let d : e - x ≡ suc (e - (x + 1)) = omega arith in rw (d, add-one x)

pub first_end : (p : ℕ → Bool) (x e : ℕ) → e ≤ x → first_of p x (e - x) ≡ x
unfolding first_of
first_end p x e l = let d : e - x ≡ 0 = omega arith in rw d

-- the first is known by what it is
pub first_is : (p : ℕ → Bool) (a n v : ℕ) → a ≤ v → v < a + n → ((x : ℕ) → a ≤ x → x < v → p x ≡ false) → p v ≡ true → first_of p a n ≡ v
unfolding first_of
first_is p a zero v l k before hit = absurd (omega arith)
first_is p a (suc n) v l k before hit = ⊎_elim
    (λ (e : a ≡ v). let t : p a ≡ true = rw e hit in sym (yes_is (p a) v a (first_of p (suc a) n) t (sym e)))
    (λ (e : a ≡ v → ⊥). sym (no_is (p a) v a (first_of p (suc a) n) (before a (omega arith) (omega arith))
    (sym (first_is p (suc a) n v (omega arith) (omega arith) (λ x y z. before x (omega arith) z) hit))))
    (same? a v)
