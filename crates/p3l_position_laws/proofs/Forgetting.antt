-- Answers without positions compose as answers with positions do.
use Rattle.std.proofs.Common.{◌≡◌, Bool, true, false, List, ◌∷◌, Option, Some, None, Result, Ok, Err, if◌then◌else◌, refl, ap, ◌∙◌}
use Rattle.std.specs.Option.{option_map_or}
use Rattle.p3l_ast.specs.declared.position.Pos.{Pos}
use Rattle.p3l_ast.specs.declared.refusal.Fault.{Fault}
use Rattle.p3l_ast.specs.declared.refusal.SourceRefusal.{SourceRefusal}
use Rattle.p3l_ast.specs.declared.refusal.SourceRefusal.TheVariants.{At}
use Rattle.p3l_ast.specs.Unplaced.{nowhere}
use Rattle.p3l_types.specs.Verdict.{Verdict, broken_if, first_of, given}
use Rattle.p3l_position_laws.specs.Forgetting.{settled, forget}

pub passes : {A B : Type 0} (r s : Result A SourceRefusal) (f g : A → Result B SourceRefusal) → s ≡ forget r → ((x : A) → g x ≡ forget (f x)) → given s g ≡ forget (given r f)
passes {A} {B} r s f g e h = ap (λ t. given t g) e ∙ by r
  where
    by : (t : Result A SourceRefusal) → given (forget t) g ≡ forget (given t f)
    by (Ok x) = h x
    by (Err refusal) = refl

-- the same, where the value that is made has positions
pub settles : {A B C : Type 0} (v : B → C) (r s : Result A SourceRefusal) (f : A → Result B SourceRefusal) (g : A → Result C SourceRefusal) → s ≡ forget r → ((x : A) → g x ≡ settled v (f x)) → given s g ≡ settled v (given r f)
settles {A} {B} {C} v r s f g e h = ap (λ t. given t g) e ∙ by r
  where
    by : (t : Result A SourceRefusal) → given (forget t) g ≡ settled v (given t f)
    by (Ok x) = h x
    by (Err refusal) = refl

-- and where both have
pub carries : {A B C D : Type 0} (u : A → B) (v : C → D) (r : Result A SourceRefusal) (s : Result B SourceRefusal) (f : A → Result C SourceRefusal) (g : B → Result D SourceRefusal) → s ≡ settled u r → ((x : A) → g (u x) ≡ settled v (f x)) → given s g ≡ settled v (given r f)
carries {A} {B} {C} {D} u v r s f g e h = ap (λ t. given t g) e ∙ by r
  where
    by : (t : Result A SourceRefusal) → given (settled u t) g ≡ settled v (given t f)
    by (Ok x) = h x
    by (Err refusal) = refl

pub found_passes : {A : Type 0} (o : Option A) (fault : Fault) (p : Pos) → option_map_or Ok o (Err (At fault nowhere)) ≡ forget (option_map_or Ok o (Err (At fault p)))
found_passes None fault p = refl
found_passes (Some x) fault p = refl

pub broken_passes : (b c : Bool) (fault : Fault) (p : Pos) → c ≡ b → broken_if c fault nowhere ≡ forget (broken_if b fault p)
broken_passes b c fault p e = ap (λ d. broken_if d fault nowhere) e ∙ by b
  where
    by : (d : Bool) → broken_if d fault nowhere ≡ forget (broken_if d fault p)
    by true = refl
    by false = refl

pub if_passes : {A : Type 0} (b : Bool) (x : A) (fault : Fault) (p q : Pos) → q ≡ nowhere → (if b then Ok x else Err (At fault q)) ≡ forget (if b then Ok x else Err (At fault p))
if_passes true x fault p q e = refl
if_passes false x fault p q e = ap (λ t. Err (At fault t)) e

pub else_passes : {A : Type 0} (b : Bool) (x : A) (fault : Fault) (p q : Pos) → q ≡ nowhere → (if b then Err (At fault q) else Ok x) ≡ forget (if b then Err (At fault p) else Ok x)
else_passes false x fault p q e = refl
else_passes true x fault p q e = ap (λ t. Err (At fault t)) e

pub first_passes : (v w : Verdict) (vs ws : List Verdict) → w ≡ forget v → first_of ws ≡ forget (first_of vs) → first_of (w ∷ ws) ≡ forget (first_of (v ∷ vs))
first_passes v w vs ws e h = ap (λ t. first_of (t ∷ ws)) e ∙ by v
  where
    by : (t : Verdict) → first_of (forget t ∷ ws) ≡ forget (first_of (t ∷ vs))
    by (Ok x) = h
    by (Err refusal) = refl

-- the same, where only the value that is taken has positions
pub enters : {A B C : Type 0} (u : A → B) (r : Result A SourceRefusal) (s : Result B SourceRefusal) (f : A → Result C SourceRefusal) (g : B → Result C SourceRefusal) → s ≡ settled u r → ((x : A) → g (u x) ≡ forget (f x)) → given s g ≡ forget (given r f)
enters {A} {B} {C} u r s f g e h = ap (λ t. given t g) e ∙ by r
  where
    by : (t : Result A SourceRefusal) → given (settled u t) g ≡ forget (given t f)
    by (Ok x) = h x
    by (Err refusal) = refl
