-- The view that contracts have of a timer, and its relation to the machine that it times.
use Rattle.std.specs.Prelude.{◌≡◌, ◌≢◌, ℕ, ◌+◌, ◌*◌, ◌^◌, ◌<◌, ◌≤◌, Bool, ◌⊎◌, List, Option, Some, None, length, slice_set, slice_index, unwrap_or}
use Rattle.std.specs.Option.{is_some}
use Rattle.p3l_net.specs.Machine.{Seen, can_step}
use Rattle.p3l_net.specs.Steps.{IsApart, ShareNone}
use Rattle.p3l_timed.specs.Moments.{due_at}
use Rattle.p3l_timed.specs.Due.{renewed, without}
use Rattle.p3l_timed.specs.Price.{price_at}

-- the price of each process, when each is due that can fire, how long each was busy, the moment, the number of firings, and whether
-- nothing will fire any more since a trap was emitted
pub record Clock : Type 0 where
  pub prices : List ℕ
  pub due : List (Option ℕ)
  pub busy : List ℕ
  pub moment : ℕ
  pub fired : ℕ
  pub over : Bool

-- a timer is in step with a machine: due are the processes that can fire
pub record IsInStep (k : Clock) (m : Seen) : Type 0 where
  pub size : length k.prices ≡ length m.net.procs
  pub due : (r : ℕ) → is_some (due_at k.due r) ≡ can_step m r
  pub fired : k.fired ≡ m.fired
  pub over : k.over ≡ m.trapped

-- a timer before the first firing
pub record IsStarted (prices : List ℕ) (m : Seen) (k : Clock) : Type 0 where
  pub prices_are : k.prices ≡ prices
  pub due : (r : ℕ) → due_at k.due r ≡ renewed (can_step m) (price_at prices) 0 (λ q. None) r
  pub busy : (r : ℕ) → slice_index k.busy r ≡ 0
  pub moment : k.moment ≡ 0
  pub step : IsInStep k m

-- a timer after an item was offered
pub record IsRenewed (m : Seen) (old new : Clock) : Type 0 where
  pub prices : new.prices ≡ old.prices
  pub due : (r : ℕ) → due_at new.due r ≡ renewed (can_step m) (price_at old.prices) old.moment (due_at old.due) r
  pub busy : new.busy ≡ old.busy
  pub moment : new.moment ≡ old.moment
  pub fired : new.fired ≡ old.fired
  pub over : new.over ≡ old.over

-- a timer after process p fired
pub record HasFired (m : Seen) (p : ℕ) (old new : Clock) : Type 0 where
  pub there : p < length old.busy
  pub prices : new.prices ≡ old.prices
  pub moment : new.moment ≡ unwrap_or (due_at old.due p) old.moment
  pub due : (r : ℕ) → due_at new.due r ≡ renewed (can_step m) (price_at old.prices) new.moment (without p (due_at old.due)) r
  pub busy : new.busy ≡ slice_set old.busy p (slice_index old.busy p + price_at old.prices p)
  pub fired : new.fired ≡ m.fired
  pub over : new.over ≡ m.trapped

-- the processes other than p that share no channel with it can fire where they are due
abbrev pub OthersAsBefore : Seen → ℕ → (ℕ → Option ℕ) → Type 0
OthersAsBefore m p due = (r : ℕ) → r ≢ p → ShareNone m.net p r → can_step m r ≡ is_some (due r)

-- all times are small enough to be counted
pub record IsTimely (prices busy : List ℕ) (due : List (Option ℕ)) (moment fired : ℕ) : Type 0 where
  pub small_price : (r : ℕ) → price_at prices r < 2 ^ 48
  pub few_busy : (r : ℕ) → slice_index busy r ≤ fired * 2 ^ 48
  pub early : moment ≤ fired * 2 ^ 48
  pub soon : (r d : ℕ) → due_at due r ≡ Some d → d ≤ (fired + 1) * 2 ^ 48

-- the invariant of every timer
pub record IsKept (prices busy : List ℕ) (due : List (Option ℕ)) (moment fired : ℕ) : Type 0 where
  pub timely : IsTimely prices busy due moment fired
  pub as_many : length busy ≡ length prices
  pub few : length prices < 2 ^ 32
  pub room : length prices ≤ length due
  pub none_else : (r : ℕ) → length prices ≤ r → due_at due r ≡ None

-- process p was busy longest, and it is the first of those
pub record IsBusiest (busy : List ℕ) (p : ℕ) : Type 0 where
  pub there : p < length busy
  pub most : (q : ℕ) → slice_index busy q ≤ slice_index busy p
  pub first : (q : ℕ) → q < p → slice_index busy q < slice_index busy p

-- the prices are those of a machine's processes, there is a due moment for each, and sums with a moment are small
pub record CanLook (m : Seen) (prices : List ℕ) (due : List (Option ℕ)) (moment : ℕ) : Type 0 where
  pub size : length prices ≡ length m.net.procs
  pub room : length prices ≤ length due
  pub prices_small : (r : ℕ) → price_at prices r < 2 ^ 48
  pub moment_small : moment ≤ 2 ^ 113

-- THE ROUND after process p fired: of the processes that share a channel with it those are still to be looked at that read or write
-- one of these; each of the others is due as it has to be, and those are as before
pub record IsOnTheWay (m : Seen) (price : ℕ → ℕ) (moment p : ℕ) (channels : List ℕ) (before : ℕ → Option ℕ) (due : List (Option ℕ)) : Type 0 where
  pub mixed : (r : ℕ) → (due_at due r ≡ before r) ⊎ (due_at due r ≡ renewed (can_step m) price moment before r)
  pub own : due_at due p ≡ renewed (can_step m) price moment before p
  pub done : (r : ℕ) → r ≢ p → IsApart m.net r channels → due_at due r ≡ renewed (can_step m) price moment before r
