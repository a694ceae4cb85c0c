-- Choices, stores in functions, and lists of numbers: what the definitions of document 01 are written with.
use Rattle.std.specs.Prelude.{Bool, true, false, not, ◌&&◌, List, [], ◌∷◌, ℕ, zero, suc, ◌+◌, ltb, eqb}
use Rattle.std.proofs.Math.Option.{Option, none, some}
pub use Rattle.words.specs.Pick.{pick}

-- 1 for true, 0 for false
abbrev pub bit : Bool → ℕ
bit true = 1
bit false = 0

-- a is at most b
abbrev pub at_most : ℕ → ℕ → Bool
at_most a b = not (ltb b a)

module _ {ℓ} {A : Type ℓ} where
  -- a function with another value at one number
  abbrev pub put : (ℕ → A) → ℕ → A → ℕ → A
  put f k x j = pick (eqb j k) x (f j)

  abbrev pub or_else : Option A → A → A
  or_else none d = d
  or_else (some a) d = a

  abbrev pub is_some : Option A → Bool
  is_some none = false
  is_some (some a) = true

-- one more in front of a list that may be missing
abbrev pub also {ℓ} : {A : Type ℓ} → A → Option (List A) → Option (List A)
also a none = none
also a (some l) = some (a ∷ l)

-- a test of what may be absent: absence means no test
abbrev pub agrees : Option ℕ → ℕ → Bool
agrees none x = true
agrees (some a) x = eqb a x

-- a ban that may be absent
abbrev pub bans : Option ℕ → ℕ → Bool
bans none x = false
bans (some a) x = eqb a x

-- what stands at a place of a list, if anything
abbrev pub nth {ℓ} : {A : Type ℓ} → List A → ℕ → Option A
nth [] k = none
nth (x ∷ xs) zero = some x
nth (x ∷ xs) (suc k) = nth xs k

-- a test of every element
abbrev pub every {ℓ} : {A : Type ℓ} → (A → Bool) → List A → Bool
every p [] = true
every p (x ∷ xs) = p x && every p xs

abbrev pub between : ℕ → ℕ → ℕ → Bool
between a x b = at_most a x && at_most x b

-- n numbers from k on, rising
abbrev pub range : ℕ → ℕ → List ℕ
range k zero = []
range k (suc n) = k ∷ range (suc k) n

-- each of a list put at the head in turn
abbrev pub push_all : List ℕ → List ℕ → List ℕ
push_all [] f = f
push_all (k ∷ ks) f = push_all ks (k ∷ f)

-- how often a number stands in a list
abbrev pub occurs : ℕ → List ℕ → ℕ
occurs k [] = 0
occurs k (x ∷ xs) = bit (eqb k x) + occurs k xs

abbrev pub member : ℕ → List ℕ → Bool
member k [] = false
member k (x ∷ xs) = pick (eqb k x) true (member k xs)

-- a list without a number
abbrev pub without : ℕ → List ℕ → List ℕ
without k [] = []
without k (x ∷ xs) = pick (eqb k x) (without k xs) (x ∷ without k xs)

-- a list without the numbers that pass a test
abbrev pub drop_if : (ℕ → Bool) → List ℕ → List ℕ
drop_if p [] = []
drop_if p (x ∷ xs) = pick (p x) (drop_if p xs) (x ∷ drop_if p xs)

-- whether two lists are one
abbrev pub same_list : List ℕ → List ℕ → Bool
same_list [] [] = true
same_list [] (y ∷ ys) = false
same_list (x ∷ xs) [] = false
same_list (x ∷ xs) (y ∷ ys) = eqb x y && same_list xs ys

-- a number put into a rising list at its place
abbrev pub insert : ℕ → List ℕ → List ℕ
insert k [] = k ∷ []
insert k (x ∷ xs) = pick (ltb k x) (k ∷ x ∷ xs) (x ∷ insert k xs)

-- each of a list put into a rising list at its place
abbrev pub insert_all : List ℕ → List ℕ → List ℕ
insert_all [] l = l
insert_all (k ∷ ks) l = insert_all ks (insert k l)

-- the sum of f over the n numbers from 0 on
abbrev pub sum : ℕ → (ℕ → ℕ) → ℕ
sum zero f = 0
sum (suc n) f = sum n f + f n
