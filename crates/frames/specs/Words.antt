-- What the words show after a frame is taken or given back. Assumes nothing.
use Rattle.std.specs.Prelude.{◌≡◌, refl, ◌⊎◌, List, ℕ, zero, suc, ◌/◌, ◌≤◌, ◌<◌, length}
use Rattle.std.proofs.Common.{ap, ◌∙◌, inl, inr, ⊎_elim, arith, eq-eqb, ne_eqb}
use Rattle.layout.specs.declared.Shape.{Shape}
use Rattle.layout.specs.Layout.{Addr, Addr.reg, Mem, total, root, owner, group, load, upds, InAll, length_writes, load_writes, in_root, in_owner, in_sixteen, in_hundred, in_thousand}
use Rattle.layout.specs.Fields.{root_free_frames}
use Rattle.layout.specs.RegionNames.{region_root, region_owner, region_group16, region_group4096}
use Rattle.storage.specs.Kept.{PoolSame}
use Rattle.storage.specs.Ops.{up}
use Rattle.frames.specs.Paged.{OnlyPaged, only_write}
use Rattle.frames.specs.Pool.{span, Pooled, down}
use Rattle.frames.specs.Ops.{step_p, take_frame_w, give_frame_w}

-- ---- memories with the same pool

pub pooled_between : (step : ℕ → ℕ) (m m' n n' : Mem) (f o : ℕ) → PoolSame m m' → PoolSame n n' → Pooled step m' n f o → Pooled step m n' f o
pooled_between step m m' n n' f o a c p = record {
  own = c.owners f ∙ p.own;
  owners = λ g e. c.owners g ∙ p.owners g e ∙ a.owners g;
  counts = λ i l. c.groups i l (f / span i) ∙ p.counts i l ∙ ap step (a.groups i l (f / span i));
  groups = λ i l g e. c.groups i l g ∙ p.groups i l g e ∙ a.groups i l g;
  count = c.count ∙ p.count ∙ ap step a.count;
}

-- ---- one frame's words

-- the owner of f and the counts
abbrev pub Pool : ℕ → Addr → Type 0
Pool f (reg k x y g) = ((k ≡ region_owner) × (x ≡ f)) ⊎ ((region_group16 ≤ k) × (k ≤ region_group4096)) ⊎ ((k ≡ region_root) × (g ≡ root_free_frames))

-- ONLY THE POOL: every other address keeps its word
abbrev pub OnlyPool : ℕ → Mem → Mem → Type 0
OnlyPool f m n = (a : Addr) → (Pool f a → ⊥) → n a ≡ m a

-- it may come with a change of a table's pages
pub paged_pool : (b f : ℕ) (m n l : Mem) → OnlyPaged b f m n → OnlyPool f n l → OnlyPaged b f m l
paged_pool b f m n l o p (reg k x y g) i =
    p (reg k x y g) (⊎_elim (λ q. i (inr (inr (inr (inl q))))) (⊎_elim (λ q. i (inr (inr (inr (inr (inl q)))))) (λ q. i (inl q))))
    ∙ o (reg k x y g) i

module _ (step : ℕ → ℕ) (m : Mem) (f o : ℕ) where
  pooled_plan : Pooled step m (upds m (step_p step m f o)) f o
  unfolding step_p
  pooled_plan = record {
    own = rw (eq-eqb f f refl);
    owners = λ g e. rw (ne_eqb g f e);
    counts = here;
    groups = there;
    count = refl;
  }
    where
      here : (i : ℕ) → i < 3 → upds m (step_p step m f o) (group i (f / span i)) ≡ step (m (group i (f / span i)))
      here zero l = rw (eq-eqb (f / 16) (f / 16) refl)
      here (suc zero) l = rw (eq-eqb (f / 256) (f / 256) refl)
      here (suc (suc zero)) l = rw (eq-eqb (f / 4096) (f / 4096) refl)
      here (suc (suc (suc i))) l = absurd (omega arith)

      there : (i : ℕ) → i < 3 → (g : ℕ) → (g ≡ f / span i → ⊥) → upds m (step_p step m f o) (group i g) ≡ m (group i g)
      there zero l g e = rw (ne_eqb g (f / 16) e)
      there (suc zero) l g e = rw (ne_eqb g (f / 256) e)
      there (suc (suc zero)) l g e = rw (ne_eqb g (f / 4096) e)
      there (suc (suc (suc i))) l g e = absurd (omega arith)

  only_plan : OnlyPool f m (upds m (step_p step m f o))
  unfolding step_p
  only_plan =
      only_write (Pool f) m _ (only_write (Pool f) m _ (only_write (Pool f) m _ (only_write (Pool f) m _ (only_write (Pool f) m m (λ c i. refl)
      (owner f) _ (inl (refl, refl)))
      (group 0 (f / 16)) _ (inr (inl (omega arith, omega arith))))
      (group 1 (f / 256)) _ (inr (inl (omega arith, omega arith))))
      (group 2 (f / 4096)) _ (inr (inl (omega arith, omega arith))))
      (root root_free_frames) _ (inr (inr (refl, refl)))

  plan_in : (sh : Shape) → f < sh.frames → InAll sh (step_p step m f o)
  unfolding step_p
  plan_in sh l = (in_owner sh f l, (in_sixteen sh f l, (in_hundred sh f l, (in_thousand sh f l, (in_root sh root_free_frames (omega arith), tt)))))

-- words that differ from others in the pool only, at frame f
pub record Steps (step : ℕ → ℕ) (ws ws' : List ℕ) (sh : Shape) (f o : ℕ) : Type 0 where
  pub long : length ws' ≡ length ws
  pub only : OnlyPool f (load ws sh) (load ws' sh)
  pub pool : Pooled step (load ws sh) (load ws' sh) f o

module _ (ws : List ℕ) (sh : Shape) (room : total sh ≤ length ws) (f : ℕ) (l : f < sh.frames) where
  -- TAKEN, with the owner word o
  pub take_steps : (o : ℕ) → Steps down ws (take_frame_w ws sh f o) sh f o
  unfolding take_frame_w
  take_steps o =
      let w = load_writes ws sh room (step_p down (load ws sh) f o) (plan_in down (load ws sh) f o sh l) in
      record {
        long = length_writes ws sh (step_p down (load ws sh) f o);
        only = rw w (only_plan down (load ws sh) f o);
        pool = rw w (pooled_plan down (load ws sh) f o);
      }

  -- GIVEN BACK
  pub give_steps : Steps up ws (give_frame_w ws sh f) sh f 0
  unfolding give_frame_w
  give_steps =
      let w = load_writes ws sh room (step_p up (load ws sh) f 0) (plan_in up (load ws sh) f 0 sh l) in
      record {
        long = length_writes ws sh (step_p up (load ws sh) f 0);
        only = rw w (only_plan up (load ws sh) f 0);
        pool = rw w (pooled_plan up (load ws sh) f 0);
      }
