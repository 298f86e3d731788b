-- The slices of a map's call, one after another.
use Rattle.std.proofs.Common.{◌≡◌, ℕ, ◌+◌, ◌*◌, ◌<◌, List, [], ◌∷◌, ◌++◌, length, get_or, drop, Result, Ok, Err, Option, refl, sym, ap, ◌∙◌, append_assoc}
use Rattle.std.specs.Prelude.{slice_get}
use Rattle.std.proofs.lemmas.List.{drop_more}
use Rattle.p3l_base.specs.declared.slice.Dim.{Dim}
use Rattle.p3l_base.specs.declared.slice.Slice.{Slice}
use Rattle.p3l_base.specs.Slice.{array_size}
use Rattle.p3l_ast.specs.declared.position.Pos.{Pos}
use Rattle.p3l_ast.specs.declared.refusal.SourceRefusal.{SourceRefusal}
use Rattle.p3l_ast.specs.declared.call.Sub.{Sub}
use Rattle.p3l_ast.specs.declared.call.Arg.{Arg}
use Rattle.p3l_ast.specs.declared.call.OutArg.{OutArg}
use Rattle.p3l_types.specs.Verdict.{given}
use Rattle.p3l_types.specs.Shape.{product}
use Rattle.p3l_body.specs.declared.var.Var.{Var}
use Rattle.p3l_calls.specs.declared.index.Index.{Index}
use Rattle.p3l_calls.specs.Plain.{first, after_first}
use Rattle.p3l_calls.specs.Index.{place_in}
use Rattle.p3l_calls.specs.Located.{located}
use Rattle.p3l_calls.specs.Map.{dims_of, map_out, map_outs, map_in, map_ins}
use Rattle.p3l_calls.proofs.Orders.{first-drop, after_first-drop}

-- one dimension more
pub dims-more : (indices : List Index) (dims : List Dim) (subs : List Sub) (sizes : List ℕ) (k : ℕ) → k < length sizes →
    (dims ++ record { size = get_or sizes k 0; place = place_in indices (slice_get subs k) } ∷ []) ++ dims_of indices (drop (k + 1) subs) (drop (k + 1) sizes)
    ≡ dims ++ dims_of indices (drop k subs) (drop k sizes)
dims-more indices dims subs sizes k h =
    append_assoc dims (record { size = get_or sizes k 0; place = place_in indices (slice_get subs k) } ∷ []) (dims_of indices (drop (k + 1) subs) (drop (k + 1) sizes))
    ∙ ap (λ (o : Option Sub). dims ++ record { size = get_or sizes k 0; place = place_in indices o } ∷ dims_of indices (drop (k + 1) subs) (drop (k + 1) sizes)) (sym (first-drop subs k))
    ∙ ap (λ more. dims ++ record { size = get_or sizes k 0; place = place_in indices (first (drop k subs)) } ∷ dims_of indices more (drop (k + 1) sizes)) (sym (after_first-drop subs k))
    ∙ ap (λ ss. dims ++ dims_of indices (drop k subs) ss) (sym (drop_more sizes k 0 h))

-- an array is as large under brackets as without
pub array_size-dims : (indices : List Index) (subs : List Sub) (sizes : List ℕ) → array_size (dims_of indices subs sizes) ≡ product sizes
array_size-dims indices subs [] = refl
array_size-dims indices subs (size ∷ sizes) = ap (λ n. size * n) (array_size-dims indices (after_first subs) sizes)

-- the slices so far, followed by those of the out arguments that are left
abbrev pub outs_after : List Index → Pos → List Slice → ℕ → List Var → List Var → List OutArg → Result (List Slice) SourceRefusal
outs_after indices place done start vars ports outs =
    given (map_outs indices place start vars ports outs) (λ rest. Ok (done ++ rest))

joined : (done : List Slice) (slice : Slice) (r : Result (List Slice) SourceRefusal) →
    given (given r (λ slices. Ok (slice ∷ slices))) (λ rest. Ok (done ++ rest)) ≡ given r (λ rest. Ok ((done ++ slice ∷ []) ++ rest))
joined done slice (Ok rest) = ap Ok (sym (append_assoc done (slice ∷ []) rest))
joined done slice (Err e) = refl

given-ok : {A : Type 0} (r : Result A SourceRefusal) → given r (λ x. Ok x) ≡ r
given-ok (Ok x) = refl
given-ok (Err e) = refl

pub outs_after-none : (indices : List Index) (place : Pos) (vars ports : List Var) (outs : List OutArg) →
    outs_after indices place [] 0 vars ports outs ≡ map_outs indices place 0 vars ports outs
outs_after-none indices place vars ports outs = given-ok (map_outs indices place 0 vars ports outs)

module _ (indices : List Index) (place : Pos) (done : List Slice) (start : ℕ) (vars ports : List Var) (outs : List OutArg) where
  outs-step : (k : ℕ) (d : OutArg) → k < length outs →
      map_outs indices place start (drop k vars) (drop k ports) (drop k outs)
      ≡ given (map_out indices start (slice_get vars k) (slice_get ports k) (get_or outs k d))
      (λ slice. given (map_outs indices place (start + array_size slice.dims) (drop (k + 1) vars) (drop (k + 1) ports) (drop (k + 1) outs)) (λ slices. Ok (slice ∷ slices)))
  outs-step k d h =
      rw (drop_more outs k d h, first-drop vars k, first-drop ports k, after_first-drop vars k, after_first-drop ports k) refl

  pub outs_after-broken : (k : ℕ) (x : OutArg) (e : SourceRefusal) → k < length outs → x ≡ get_or outs k x →
      map_out indices start (slice_get vars k) (slice_get ports k) x ≡ Err e →
      outs_after indices place done start (drop k vars) (drop k ports) (drop k outs) ≡ Err e
  outs_after-broken k x e h is broken = rw (outs-step k x h, sym is, broken) refl

  pub outs_after-more : (k : ℕ) (x : OutArg) (slice : Slice) → k < length outs → x ≡ get_or outs k x →
      map_out indices start (slice_get vars k) (slice_get ports k) x ≡ Ok slice →
      outs_after indices place done start (drop k vars) (drop k ports) (drop k outs)
      ≡ outs_after indices place (done ++ slice ∷ []) (start + array_size slice.dims) (drop (k + 1) vars) (drop (k + 1) ports) (drop (k + 1) outs)
  outs_after-more k x slice h is found =
      rw (outs-step k x h, sym is, found)
      (joined done slice (map_outs indices place (start + array_size slice.dims) (drop (k + 1) vars) (drop (k + 1) ports) (drop (k + 1) outs)))

-- the slices so far, followed by those of the in arguments that are left
abbrev pub ins_after : List Index → List Var → List Slice → List Var → List Arg → Result (List Slice) SourceRefusal
ins_after indices vars done ports args = given (map_ins indices vars ports args) (λ rest. Ok (done ++ rest))

pub ins_after-none : (indices : List Index) (vars ports : List Var) (args : List Arg) →
    ins_after indices vars [] ports args ≡ map_ins indices vars ports args
ins_after-none indices vars ports args = given-ok (map_ins indices vars ports args)

module _ (indices : List Index) (vars : List Var) (done : List Slice) (ports : List Var) (args : List Arg) where
  ins-step : (k : ℕ) (d : Arg) → k < length args →
      map_ins indices vars (drop k ports) (drop k args)
      ≡ given (map_in indices (located vars (get_or args k d).at.name) (slice_get ports k) (get_or args k d))
      (λ slice. given (map_ins indices vars (drop (k + 1) ports) (drop (k + 1) args)) (λ slices. Ok (slice ∷ slices)))
  ins-step k d h = rw (drop_more args k d h, first-drop ports k, after_first-drop ports k) refl

  pub ins_after-broken : (k : ℕ) (x : Arg) (e : SourceRefusal) → k < length args → x ≡ get_or args k x →
      map_in indices (located vars x.at.name) (slice_get ports k) x ≡ Err e →
      ins_after indices vars done (drop k ports) (drop k args) ≡ Err e
  ins_after-broken k x e h is broken = rw (ins-step k x h, sym is, broken) refl

  pub ins_after-more : (k : ℕ) (x : Arg) (slice : Slice) → k < length args → x ≡ get_or args k x →
      map_in indices (located vars x.at.name) (slice_get ports k) x ≡ Ok slice →
      ins_after indices vars done (drop k ports) (drop k args)
      ≡ ins_after indices vars (done ++ slice ∷ []) (drop (k + 1) ports) (drop (k + 1) args)
  ins_after-more k x slice h is found =
      rw (ins-step k x h, sym is, found) (joined done slice (map_ins indices vars (drop (k + 1) ports) (drop (k + 1) args)))

pub ruleset dimensions = (dims-more)

pub ruleset slices = (outs_after-none, outs_after-broken, outs_after-more, ins_after-none, ins_after-broken, ins_after-more)
