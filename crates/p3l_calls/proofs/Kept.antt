-- Consequences of rules that are kept.
use Rattle.std.proofs.Common.{◌≡◌, Bool, true, false, List, ◌∷◌, Result, Ok, Err, refl}
use Rattle.std.specs.Prelude.{◌&&◌, not, if◌then◌else◌}
use Rattle.p3l_ast.specs.declared.position.Pos.{Pos}
use Rattle.p3l_ast.specs.declared.refusal.Fault.{Fault}
use Rattle.p3l_ast.specs.declared.refusal.SourceRefusal.{SourceRefusal}
use Rattle.p3l_types.specs.Verdict.{Verdict, broken_if, first_of, given}

-- a value that came of another: that one was there
pub given-taken : {A B : Type 0} (r : Result A SourceRefusal) (go : A → Result B SourceRefusal) (y : B) →
    given r go ≡ Ok y → (x : A) × (r ≡ Ok x) × (go x ≡ Ok y)
given-taken (Ok x) go y e = (x, refl, e)
given-taken (Err refusal) go y e = absurd cc

-- a test that had to hold, and one that had not to
pub kept-true : (b : Bool) (fault : Fault) (pos : Pos) (u : Unit {0}) → broken_if (not b) fault pos ≡ Ok u → b ≡ true
kept-true true fault pos u e = refl
kept-true false fault pos u e = absurd cc

pub kept-false : (b : Bool) (fault : Fault) (pos : Pos) (u : Unit {0}) → broken_if b fault pos ≡ Ok u → b ≡ false
kept-false true fault pos u e = absurd cc
kept-false false fault pos u e = refl

-- a choice that gave a value
pub chosen : {A : Type 0} (b : Bool) (x y : A) (refusal : SourceRefusal) → (if b then Ok x else Err refusal) ≡ Ok y → (b ≡ true) × (x ≡ y)
chosen true x y refusal e = (refl, cc)
chosen false x y refusal e = absurd cc

pub not_chosen : {A : Type 0} (b : Bool) (x y : A) (refusal : SourceRefusal) → (if b then Err refusal else Ok x) ≡ Ok y → (b ≡ false) × (x ≡ y)
not_chosen true x y refusal e = absurd cc
not_chosen false x y refusal e = (refl, cc)

-- rules that are all kept
pub first_of-first : (v : Verdict) (vs : List Verdict) (u : Unit {0}) → first_of (v ∷ vs) ≡ Ok u → v ≡ Ok u
first_of-first (Ok x) vs u e = refl
first_of-first (Err refusal) vs u e = absurd cc

pub first_of-after : (v : Verdict) (vs : List Verdict) (u : Unit {0}) → first_of (v ∷ vs) ≡ Ok u → first_of vs ≡ Ok u
first_of-after (Ok x) vs u e = e
first_of-after (Err refusal) vs u e = absurd cc

-- both of two tests
pub both-left : (a b : Bool) → (a && b) ≡ true → a ≡ true
both-left true b e = refl
both-left false b e = e

pub both-right : (a b : Bool) → (a && b) ≡ true → b ≡ true
both-right true b e = e
both-right false b e = absurd cc
