-- Turns of a loop, each a plan of stores: the words, and what the addresses show. Assumes nothing.
use Rattle.std.specs.Prelude.{◌≡◌, List, length, get_or, eqb}
use Rattle.std.proofs.Math.Path.{refl, ap}
use Rattle.std.proofs.Common.{◌∙◌, arith, add-one, eqb-true}
use Prim.Native.Nat.{ℕ, zero, suc, ◌+◌, ◌≤◌, ◌<◌}
use Rattle.std.proofs.lemmas.Bool.{eqb-false}
use Rattle.words.specs.Pick.{bool}
use Rattle.layout.specs.declared.Shape.{Shape}
use Rattle.layout.specs.Layout.{Addr, Mem, total, load, Write, writes, upds, InAll, length_writes, load_writes, writes_past}

-- n turns
unfoldable pub turns : List ℕ → Shape → (ℕ → List Write) → ℕ → List ℕ
turns ws sh f zero = ws
turns ws sh f (suc n) = writes (turns ws sh f n) sh (f n)

abbrev pub turns_m : Mem → (ℕ → List Write) → ℕ → Mem
turns_m m f zero = m
turns_m m f (suc n) = upds (turns_m m f n) (f n)

module _ (ws : List ℕ) (sh : Shape) (f : ℕ → List Write) where
  pub turns_none : turns ws sh f 0 ≡ ws
  unfolding turns
  turns_none = refl

  pub turns_more : (k : ℕ) (us vs : List ℕ) → us ≡ turns ws sh f k → vs ≡ writes us sh (f k) → vs ≡ turns ws sh f (k + 1)
  unfolding turns
  turns_more k us vs e q = rw (add-one, ← e) q

  pub length_turns : (n : ℕ) → length (turns ws sh f n) ≡ length ws
  unfolding turns
  length_turns zero = refl
  length_turns (suc n) = length_writes (turns ws sh f n) sh (f n) ∙ length_turns n

  pub turns_past : (n i : ℕ) → total sh ≤ i → get_or (turns ws sh f n) i 0 ≡ get_or ws i 0
  unfolding turns
  turns_past zero i h = refl
  turns_past (suc n) i h = writes_past (turns ws sh f n) sh (f n) i h ∙ turns_past n i h

  pub load_turns : total sh ≤ length ws → (n : ℕ) → ((i : ℕ) → i < n → InAll sh (f i)) → load (turns ws sh f n) sh ≡ turns_m (load ws sh) f n
  unfolding turns
  load_turns h zero c = refl
  load_turns h (suc n) c =
      load_writes (turns ws sh f n) sh (omega (arith, length_turns n)) (f n) (c n (omega arith))
      ∙ ap (λ (m : Mem). upds m (f n)) (load_turns h n (λ i g. c i (omega arith)))

module _ (m : Mem) (f : ℕ → List Write) (a : Addr) where
  -- no turn stores there
  pub miss : ((i : ℕ) (k : Mem) → upds k (f i) a ≡ k a) → (n : ℕ) → turns_m m f n a ≡ m a
  miss c zero = refl
  miss c (suc n) = c n (turns_m m f n) ∙ miss c n

  -- one turn stores there
  pub hit : (i v : ℕ) → ((k : Mem) → upds k (f i) a ≡ v) → ((j : ℕ) (k : Mem) → (i ≡ j → ⊥) → upds k (f j) a ≡ k a) → (n : ℕ) → i < n → turns_m m f n a ≡ v
  hit i v c d zero h = absurd (omega arith)
  hit i v c d (suc n) h = bool (eqb i n)
      (λ e. rw (← eqb-true i n e) (c (turns_m m f i)))
      (λ e. d n (turns_m m f n) (eqb-false i n e) ∙ hit i v c d n (omega (arith, eqb-false i n e)))
