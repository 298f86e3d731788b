-- Declarations that are checked one after another.
use Rattle.std.proofs.Common.{◌≡◌, ℕ, ◌+◌, Bool, List, [], ◌∷◌, ◌++◌, map, Result, Ok, Err, refl, sym, ap, ◌∙◌, append_assoc}
use Rattle.std.proofs.lemmas.List.{append-nil, map-append}
use Rattle.p3l_ast.specs.declared.refusal.Fault.{Fault}
use Rattle.p3l_ast.specs.declared.refusal.SourceRefusal.{SourceRefusal}
use Rattle.p3l_ast.specs.declared.port.Port.{Port}
use Rattle.p3l_types.specs.Verdict.{given}
use Rattle.p3l_types.specs.Constants.{Constants}
use Rattle.p3l_types.specs.Shape.{product}
use Rattle.p3l_body.specs.declared.var.Var.{Var}
use Rattle.p3l_body.specs.Scope.{Names, named, declared_one, declared}

-- the variables that are declared, followed by those still to be declared
abbrev pub declared_after : Fault → Bool → Constants → Names → ℕ → List Var → List Port → Result (List Var) SourceRefusal
declared_after fault is_fixed constants names words done ports =
    given (declared fault is_fixed constants names words ports) (λ rest. Ok (done ++ rest))

given-ok : {A : Type 0} (r : Result A SourceRefusal) → given r (λ x. Ok x) ≡ r
given-ok (Ok x) = refl
given-ok (Err e) = refl

pub declared_after-none : (fault : Fault) (is_fixed : Bool) (constants : Constants) (names : Names) (words : ℕ) (ports : List Port) →
    declared_after fault is_fixed constants names words [] ports ≡ declared fault is_fixed constants names words ports
declared_after-none fault is_fixed constants names words ports = given-ok (declared fault is_fixed constants names words ports)

joined : (done : List Var) (var : Var) (r : Result (List Var) SourceRefusal) →
    given (given r (λ vars. Ok (var ∷ vars))) (λ rest. Ok (done ++ rest)) ≡ given r (λ rest. Ok ((done ++ var ∷ []) ++ rest))
joined done var (Ok rest) = ap Ok (sym (append_assoc done (var ∷ []) rest))
joined done var (Err e) = refl

pub declared_after-more : (fault : Fault) (is_fixed : Bool) (constants : Constants) (names : Names) (words : ℕ) (done : List Var) (port : Port) (ports : List Port) (var : Var) →
    declared_one fault constants names words port ≡ Ok var →
    declared_after fault is_fixed constants names words done (port ∷ ports)
    ≡ declared_after fault is_fixed constants (names ++ named is_fixed var ∷ []) (words + product var.shape.sizes) (done ++ var ∷ []) ports
declared_after-more fault is_fixed constants names words done port ports var e =
    rw e (joined done var (declared fault is_fixed constants (names ++ named is_fixed var ∷ []) (words + product var.shape.sizes) ports))

pub declared_after-refused : (fault : Fault) (is_fixed : Bool) (constants : Constants) (names : Names) (words : ℕ) (done : List Var) (port : Port) (ports : List Port) (e : SourceRefusal) →
    declared_one fault constants names words port ≡ Err e → declared_after fault is_fixed constants names words done (port ∷ ports) ≡ Err e
declared_after-refused fault is_fixed constants names words done port ports e h = rw h refl

pub declared_after-all : (fault : Fault) (is_fixed : Bool) (constants : Constants) (names : Names) (words : ℕ) (done : List Var) →
    declared_after fault is_fixed constants names words done [] ≡ Ok done
declared_after-all fault is_fixed constants names words done = ap Ok (append-nil done)

-- the names of one variable more
pub names-more : (is_fixed : Bool) (names : Names) (done : List Var) (var : Var) →
    (names ++ map (named is_fixed) done) ++ named is_fixed var ∷ [] ≡ names ++ map (named is_fixed) (done ++ var ∷ [])
names-more is_fixed names done var =
    append_assoc names (map (named is_fixed) done) (named is_fixed var ∷ []) ∙ ap (λ more. names ++ more) (sym (map-append (named is_fixed) done (var ∷ [])))
