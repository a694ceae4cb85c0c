-- What a walk and a row tell of slots, and the frames that a page and a plan give back.
use Rattle.std.specs.Prelude.{◌≡◌, refl, true, List, [], ◌∷◌, ℕ, zero, suc, ◌+◌, ◌-◌, ◌≤◌}
use Rattle.std.proofs.Math.Option.{Option, none, some}
use Rattle.std.proofs.Common.{arith}
use Rattle.model.specs.Base.{bit, occurs, insert, insert_all}
use Rattle.model.specs.State.{Sizes, Handle, Slot, Slot.absent, Slot.vacant, Slot.reserved, Slot.transfer_reserved, Slot.occupied, Table, Body}
use Rattle.model.specs.State.{Body.reservation, Body.claim, Body.parcel, Body.plan, is_occupied, is_busy}
use Rattle.model.specs.Storage.{keep, first_occupied, length_of}
use Rattle.model.specs.Decision.{as_parcel}
use Rattle.model.specs.Lookup.{handle_or}
use Rattle.model.specs.Step.{fill_all, next_occupied, returned}
use Rattle.model.specs.WellFormed.{Rising, is_frame}
use Rattle.model.proofs.Tests.{apart, bool, clash, same}
use Rattle.model.proofs.Sums.{occurs_insert}
use Rattle.invariant.proofs.Pointwise.{keep_busy}
use Rattle.invariant.proofs.Frames.{rising_insert}

first_occupied_law : (f : ℕ → Slot) (k n j : ℕ) → first_occupied f k n ≡ some j → is_occupied (f j) ≡ true
first_occupied_law f k zero j e = apart (cc)
first_occupied_law f k (suc n) j e = bool (is_occupied (f k))
    (λ q. let x : some k ≡ some j = rw q at e in let y : k ≡ j = cc in rw y at q)
    (λ q. first_occupied_law f (suc k) n j (rw q at e))

held_is : (x : Slot) → is_occupied x ≡ true → (g : ℕ) × (x ≡ occupied g (handle_or x))
held_is absent e = clash e refl
held_is (vacant g) e = clash e refl
held_is (reserved g i) e = clash e refl
held_is (transfer_reserved g i) e = clash e refl
held_is (occupied g h) e = (g, refl)

pub next_occupied_law : (z : Sizes) (t : Table) (k j : ℕ) → next_occupied z t k ≡ some j → (g : ℕ) × (t.slots j ≡ occupied g (handle_or (t.slots j)))
next_occupied_law z t k j e = held_is (t.slots j) (first_occupied_law t.slots k (length_of z t - k) j e)

pub parcel_found : (x : Option Body) (hs : List Handle) → as_parcel x ≡ some hs → x ≡ some (parcel hs)
parcel_found none hs e = apart (cc)
parcel_found (some (reservation b ks)) hs e = apart (cc)
parcel_found (some (claim b es)) hs e = apart (cc)
parcel_found (some (parcel gs)) hs e = let y : gs ≡ hs = cc in rw y
parcel_found (some (plan b n w fs)) hs e = apart (cc)

-- handles put into slots leave busy slots busy
pub fill_all_busy : (z : Sizes) (ks : List ℕ) (hs : List Handle) (t : Table) (j : ℕ) → is_busy (t.slots j) ≡ true
    → is_busy ((fill_all z ks hs t).slots j) ≡ true
fill_all_busy z [] hs t j e = e
fill_all_busy z (k ∷ ks) [] t j e = e
fill_all_busy z (k ∷ ks) (h ∷ hs) t j e = fill_all_busy z ks hs (keep z (λ g. occupied g h) t k) j (keep_busy z (λ g. occupied g h) (λ g. refl) t k j e)

-- the frame that a page gives back

pub occurs_returned : (z : Sizes) (x : Option ℕ) (fs : List ℕ) (f : ℕ) → occurs f (returned z x fs) ≡ bit (is_frame x f) + occurs f fs
occurs_returned z none fs f = omega arith
occurs_returned z (some g) fs f = occurs_insert f g fs

pub rising_returned : (z : Sizes) (x : Option ℕ) (fs : List ℕ) → ((f : ℕ) → bit (is_frame x f) + occurs f fs ≤ 1) → Rising fs
    → Rising (returned z x fs)
rising_returned z none fs h r = r
rising_returned z (some g) fs h r = rising_insert g fs (let i : 1 + occurs g fs ≤ 1 = rw (same g) at (h g) in omega arith) r

-- the frames that a plan gives back

pub occurs_inserted : (gs fs : List ℕ) (f : ℕ) → occurs f (insert_all gs fs) ≡ occurs f gs + occurs f fs
occurs_inserted [] fs f = omega arith
occurs_inserted (g ∷ gs) fs f = omega (arith, occurs_inserted gs (insert g fs) f, occurs_insert f g fs)

pub rising_inserted : (gs fs : List ℕ) → ((f : ℕ) → occurs f gs + occurs f fs ≤ 1) → Rising fs → Rising (insert_all gs fs)
rising_inserted [] fs h r = r
rising_inserted (g ∷ gs) fs h r =
    let i : 1 + occurs g gs + occurs g fs ≤ 1 = rw (same g) at (h g) in
    rising_inserted gs (insert g fs) (λ f. omega (arith, h f, occurs_insert f g fs)) (rising_insert g fs (omega arith) r)
