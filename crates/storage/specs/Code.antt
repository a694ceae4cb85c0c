-- What the code's sums say, in the terms of the definitions. Assumes nothing.
use Rattle.std.specs.Prelude.{◌≡◌, ℕ, ◌+◌, ◌≤◌, ◌<◌, min, ltb}
use Rattle.std.proofs.Math.Path.{sym, ap}
use Rattle.std.proofs.Common.{◌∙◌, arith, ltb-true, ltb-false}
use Rattle.std.proofs.Math.Bool.{false}
use mathlib.Core.List.{List}
use Rattle.layout.specs.declared.Shape.{Shape}
use Rattle.layout.specs.Layout.{entry, is_in, in_no, load, save, load_out, save_out}
use Rattle.words.specs.Pick.{bool}

-- an entry past the last stands nowhere
entry_out : (sh : Shape) (e f : ℕ) → sh.pages ≤ e → is_in sh (entry e f) ≡ false
entry_out sh e f h = in_no sh (entry e f) (λ i. omega (arith, i.xs))

-- the entry of a sum that may pass the words
pub entry_load : (ws : List ℕ) (sh : Shape) (e p f : ℕ) → sh.pages < 4294967296 → load ws sh (entry (min (e + p) 0xffff_ffff_ffff_ffff) f) ≡ load ws sh (entry (e + p) f)
entry_load ws sh e p f h = bool (ltb (e + p) 4294967296)
    (λ q. ap (λ (i : ℕ). load ws sh (entry i f)) (omega (arith, ltb-true (e + p) 4294967296 q)))
    (λ q. load_out ws sh (entry (min (e + p) 0xffff_ffff_ffff_ffff) f) (entry_out sh (min (e + p) 0xffff_ffff_ffff_ffff) f (omega (arith, ltb-false (e + p) 4294967296 q)))
    ∙ sym (load_out ws sh (entry (e + p) f) (entry_out sh (e + p) f (omega (arith, ltb-false (e + p) 4294967296 q)))))

pub entry_save : (ws : List ℕ) (sh : Shape) (e p f v : ℕ) → sh.pages < 4294967296 → save ws sh (entry (min (e + p) 0xffff_ffff_ffff_ffff) f) v ≡ save ws sh (entry (e + p) f) v
entry_save ws sh e p f v h = bool (ltb (e + p) 4294967296)
    (λ q. ap (λ (i : ℕ). save ws sh (entry i f) v) (omega (arith, ltb-true (e + p) 4294967296 q)))
    (λ q. save_out ws sh (entry (min (e + p) 0xffff_ffff_ffff_ffff) f) v (entry_out sh (min (e + p) 0xffff_ffff_ffff_ffff) f (omega (arith, ltb-false (e + p) 4294967296 q)))
    ∙ sym (save_out ws sh (entry (e + p) f) v (entry_out sh (e + p) f (omega (arith, ltb-false (e + p) 4294967296 q)))))
