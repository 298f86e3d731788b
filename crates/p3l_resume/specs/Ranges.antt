-- Conditions under which a snapshot can be written: its numbers are in the ranges of their types, and its lists have few items.
use Rattle.std.specs.Prelude.{◌≡◌, ◌^◌, ◌<◌, ℕ, ℤ, true, List, length, IfSome}
use Rattle.std.specs.List.{All}
use Rattle.p3l_base.specs.declared.outcome.Outcome.{Outcome}
use Rattle.p3l_base.specs.declared.outcome.Outcome.TheVariants.{Value, Trapped}
use Rattle.p3l_format.specs.Numbers.{is_byte, is_i64}
use Rattle.p3l_firing.specs.declared.shot.Own.{Own}
use Rattle.p3l_firing.specs.declared.shot.SavedToken.{SavedToken}
use Rattle.p3l_firing.specs.declared.shot.Shot.{Shot}
use Rattle.p3l_resume.specs.declared.saved.Saved.{Saved}
use Rattle.p3l_resume.specs.Saved.{CanBeWritten}

-- a word has 64 bits, and a tag too
abbrev pub IsWord : ℤ → Type 0
IsWord word = is_i64 word ≡ true

abbrev pub IsTag : ℕ → Type 0
IsTag tag = tag < 2 ^ 64

-- the words of a value, or the module's number of a trap
abbrev pub HasRange : Outcome → Type 0
HasRange (Value words) = All IsWord words
HasRange (Trapped trap) = trap.module < 2 ^ 32

pub record IsInRange (token : SavedToken) : Type 0 where
  pub tags : All IsTag token.tags
  pub body : HasRange token.body

abbrev pub AreInRange : List SavedToken → Type 0
AreInRange tokens = All IsInRange tokens

-- the numbers of a snapshot are numbers of their types, but for those that are counted
pub record HasRanges (saved : Saved) : Type 0 where
  pub chans : All AreInRange saved.shot.chans
  pub owns : All (λ (own : Own). AreInRange own.held) saved.shot.owns
  pub inbox : IfSome saved.shot.inbox (All IsWord)
  pub image : All (λ (byte : ℕ). is_byte byte ≡ true) saved.image

-- a list can be counted in 32 bits
abbrev pub IsFew : {A : Type 0} → List A → Type 0
IsFew xs = length xs < 2 ^ 32

abbrev pub HasFewWords : Outcome → Type 0
HasFewWords (Value words) = IsFew words
HasFewWords (Trapped trap) = Unit {0}

pub record IsShort (token : SavedToken) : Type 0 where
  pub tags : IsFew token.tags
  pub body : HasFewWords token.body

pub record AreFew (tokens : List SavedToken) : Type 0 where
  pub count : IsFew tokens
  pub each : All IsShort tokens

-- the lists of what was saved can be counted so, and the numbers that were counted have 64 bits
pub record HasFewItems (shot : Shot) : Type 0 where
  pub sent : shot.sent < 2 ^ 64
  pub emitted : shot.emitted < 2 ^ 64
  pub inbox : IfSome shot.inbox (λ (item : List ℤ). IsFew item)
  pub count_owns : IsFew shot.owns
  pub numbers : All (λ (own : Own). own.number < 2 ^ 64) shot.owns
  pub owns : All (λ (own : Own). AreFew own.held) shot.owns
  pub count_chans : IsFew shot.chans
  pub chans : All AreFew shot.chans

abbrev pub WhatHasFewItemsCanBeWritten : Type 0
WhatHasFewItemsCanBeWritten = (saved : Saved) → HasRanges saved → HasFewItems saved.shot → IsFew saved.image → CanBeWritten saved
