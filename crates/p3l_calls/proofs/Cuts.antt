-- A map whose call keeps the rules has a lawful cut.
use Rattle.std.proofs.Common.{◌≡◌, ℕ, ◌+◌, ◌≤◌, Bool, true, false, List, [], ◌∷◌, length, Ok, Option, Some, None, refl, sym, ap, ◌∙◌, subst, inl, inr, arith}
use Rattle.std.specs.Prelude.{◌⊎◌, bytes_eq, cond, is_some, nat_lt, not, ◌==◌, ◌&&◌}
use Rattle.std.specs.Option.{option_map_or}
use Rattle.std.specs.List.{All}
use Rattle.std.specs.Map.{lookup}
use Rattle.std.specs.Cmp.Lexicographic.{same_text}
use Rattle.std.proofs.lemmas.Bool.{eqb-true, ltb-false}
use Rattle.std.proofs.lemmas.List.Elements.{All-nil, All-cons, All-head, All-tail}
use Rattle.p3l_base.specs.declared.slice.Place.{Place}
use Rattle.p3l_base.specs.declared.slice.Place.TheVariants.{Rest, First, Second}
use Rattle.p3l_base.specs.declared.slice.Dim.{Dim}
use Rattle.p3l_base.specs.declared.slice.Slice.{Slice}
use Rattle.p3l_base.specs.declared.cut.Cut.{Cut}
use Rattle.p3l_base.specs.Slice.{array_size, cut_size, LiesWithin}
use Rattle.p3l_base.specs.Cut.{token_size, element_size, one_at_first, one_at_second, first_count, second_count, HasIndexSize, HasFreeSizes, FollowOneAnother, HasLawfulOuts, HasLawfulIns, IsLawfulCut}
use Rattle.p3l_ast.specs.declared.position.Pos.{Pos}
use Rattle.p3l_ast.specs.declared.refusal.Fault.TheVariants.{TypeDiffers, Wiring, FreeIndex}
use Rattle.p3l_ast.specs.declared.call.Sub.{Sub}
use Rattle.p3l_ast.specs.declared.call.Arg.{Arg}
use Rattle.p3l_ast.specs.declared.call.OutArg.{OutArg}
use Rattle.p3l_ast.specs.declared.call.OutArg.TheVariants.{Fresh, Old}
use Rattle.p3l_ast.specs.declared.call.Call.{Call}
use Rattle.p3l_skel.specs.Lawful.{IsSize, HasSizes}
use Rattle.p3l_types.specs.declared.shape.Shape.{Shape}
use Rattle.p3l_types.specs.Verdict.{Verdict, broken_if}
use Rattle.p3l_types.specs.Shape.{product, sliced}
use Rattle.p3l_body.specs.declared.var.Var.{Var}
use Rattle.p3l_body.specs.declared.ports.Ports.{Ports}
use Rattle.p3l_calls.specs.declared.index.Index.{Index}
use Rattle.p3l_calls.specs.declared.located.Located.{Located}
use Rattle.p3l_calls.specs.Port.{total, IsSized, AreSized, has_shape}
use Rattle.p3l_calls.specs.Index.{are_indices, has_indices, members_rule, sizes_rule, first_size, second_size}
use Rattle.p3l_calls.specs.Located.{locations, located}
use Rattle.p3l_calls.specs.Map.{dims_of, slice_of, leaves, map_out_rule, map_in_rule, map_out, map_outs, map_in, map_ins, indices_of, cut_of}
use Rattle.p3l_calls.proofs.Kept.{given-taken, kept-true, kept-false, first_of-first, first_of-after, both-left, both-right}
use Rattle.p3l_calls.proofs.Declares.{total-some}
use Rattle.p3l_calls.proofs.Dims.{dims-free, dims-cut, dims-sizes, dims-length, out-dims, in-dims}
use Rattle.p3l_calls.proofs.Slices.{array_size-dims}

-- the slice of an out argument
pub record IsOutSlice (indices : List Index) (slice : Slice) : Type 0 where
  pub good : are_indices indices ≡ true
  pub sizes : HasSizes slice
  pub free : HasFreeSizes (first_size indices) (second_size indices) slice
  pub first : first_count slice.dims ≡ 1
  pub second : second_count slice.dims + 1 ≡ length indices

-- the slice of an in argument
pub record IsInSlice (indices : List Index) (ins : ℕ) (slice : Slice) : Type 0 where
  pub sizes : HasSizes slice
  pub free : HasFreeSizes (first_size indices) (second_size indices) slice
  pub first : first_count slice.dims ≤ 1
  pub second : second_count slice.dims + 1 ≤ length indices
  pub within : LiesWithin slice ins

-- the shape left by the brackets has as many words as the callee's port
left-of : (port : Var) (subs : List Sub) (shape : Shape) → leaves (Some port) subs shape ≡ true →
    (left : Shape) × (sliced subs shape ≡ Some left) × (product port.shape.sizes ≡ product left.sizes)
left-of port subs shape e = by (sliced subs shape) refl e
  where
    by : (o : Option Shape) → sliced subs shape ≡ o → option_map_or (has_shape (Some port)) o false ≡ true →
        (left : Shape) × (sliced subs shape ≡ Some left) × (product port.shape.sizes ≡ product left.sizes)
    by None t f = absurd cc
    by (Some left) t f = (left, t, ap product (same_text port.shape.sizes left.sizes (sym f)))

slice-sizes : (indices : List Index) (start : ℕ) (arg : Arg) (shape : Shape) → IsSized shape → HasSizes (slice_of indices start arg shape)
slice-sizes indices start arg shape sized =
    (omega (arith, dims-length indices arg.subs shape.sizes, sized.few), dims-sizes indices arg.subs shape.sizes sized.sizes)

out-slice : (indices : List Index) (start : ℕ) (var port : Var) (arg : Arg) (u : Unit {0}) → IsSized var.shape →
    map_out_rule indices var (Some port) arg ≡ Ok u →
    IsOutSlice indices (slice_of indices start arg var.shape) × (cut_size (dims_of indices arg.subs var.shape.sizes) ≡ product port.shape.sizes)
out-slice indices start var port arg u sized e =
    let counts : Verdict = broken_if (not (length arg.subs == length var.shape.sizes)) TypeDiffers arg.at.pos in
    let names : Verdict = broken_if (not (are_indices indices && has_indices indices arg.subs)) FreeIndex arg.at.pos in
    let one = first_of-after (broken_if (not (bytes_eq var.name arg.at.name)) Wiring arg.at.pos) _ u e in
    let two = first_of-after counts _ u one in
    let three = first_of-after names _ u two in
    let four = first_of-after (sizes_rule indices arg.subs var.shape.sizes) _ u three in
    let many : length arg.subs ≡ length var.shape.sizes =
    eqb-true (length arg.subs) (length var.shape.sizes) (kept-true _ TypeDiffers arg.at.pos u (first_of-first counts _ u one)) in
    let both : (are_indices indices && has_indices indices arg.subs) ≡ true = kept-true _ FreeIndex arg.at.pos u (first_of-first names _ u two) in
    let good = both-left (are_indices indices) (has_indices indices arg.subs) both in
    let has = both-right (are_indices indices) (has_indices indices arg.subs) both in
    let sizes = first_of-first (sizes_rule indices arg.subs var.shape.sizes) _ u three in
    let left = left-of port arg.subs var.shape (kept-true _ TypeDiffers arg.at.pos u (first_of-first _ [] u four)) in
    let dims = out-dims indices arg.subs var.shape.sizes many good has in (
      record {
        good = good;
        sizes = slice-sizes indices start arg var.shape sized;
        free = dims-free indices arg.subs var.shape.sizes u good sizes;
        first = dims.0;
        second = dims.1;
      },
      dims-cut indices arg.subs var.shape left.0 u good sizes left.1 ∙ sym left.2,
    )

-- an out argument's slice with its place and its numbers
pub record FitsOut (indices : List Index) (start : ℕ) (var port : Var) (slice : Slice) : Type 0 where
  pub slice_is : IsOutSlice indices slice
  pub starts : slice.start ≡ start
  pub array : array_size slice.dims ≡ product var.shape.sizes
  pub cut : cut_size slice.dims ≡ product port.shape.sizes

out-fits : (indices : List Index) (start : ℕ) (var port : Var) (out : OutArg) (slice : Slice) → IsSized var.shape →
    map_out indices start (Some var) (Some port) out ≡ Ok slice → FitsOut indices start var port slice
out-fits indices start var port (Fresh fresh) slice sized e = absurd cc
out-fits indices start var port (Old arg) slice sized e =
    let passed = given-taken (map_out_rule indices var (Some port) arg) _ slice e in
    let made : Slice = slice_of indices start arg var.shape in
    let is : made ≡ slice = cc (passed.2) in
    let facts = out-slice indices start var port arg passed.0 sized passed.1 in
    let first : FitsOut indices start var port made = record {
      slice_is = facts.0;
      starts = refl;
      array = array_size-dims indices arg.subs var.shape.sizes;
      cut = facts.1;
    } in
    subst (FitsOut indices start var port) is first

-- the slices of out arguments
pub record FitOuts (indices : List Index) (start : ℕ) (vars ports : List Var) (slices : List Slice) : Type 0 where
  pub each : All (IsOutSlice indices) slices
  pub tiles : FollowOneAnother start slices
  pub token : token_size slices ≡ total vars
  pub element : element_size slices ≡ total ports

AllSized : List Var → Type 0
AllSized vars = All (λ (v : Var). IsSized v.shape) vars

outs-fit : (indices : List Index) (place : Pos) (start : ℕ) (vars ports : List Var) (outs : List OutArg) (slices : List Slice) → AllSized vars →
    length outs ≡ length ports → map_outs indices place start vars ports outs ≡ Ok slices → FitOuts indices start vars ports slices
unfolding AllSized
outs-fit indices place start [] [] [] slices sized n e =
    let is : [] ≡ slices = cc in
    let first : FitOuts indices start [] [] [] = record { each = All-nil (IsOutSlice indices); tiles = tt; token = refl; element = refl } in
    subst (FitOuts indices start [] []) is first
outs-fit indices place start (var ∷ vars) [] [] slices sized n e =
    let ended = given-taken (broken_if (nat_lt 0 (length (var ∷ vars))) Wiring place) _ slices e in
    absurd (omega (arith, ltb-false 0 (length (var ∷ vars)) (kept-false (nat_lt 0 (length (var ∷ vars))) Wiring place ended.0 ended.1)))
outs-fit indices place start vars (port ∷ ports) [] slices sized n e = absurd (omega arith)
outs-fit indices place start vars [] (out ∷ outs) slices sized n e = absurd (omega arith)
outs-fit indices place start [] (port ∷ ports) (Fresh fresh ∷ outs) slices sized n e = absurd cc
outs-fit indices place start [] (port ∷ ports) (Old arg ∷ outs) slices sized n e = absurd cc
outs-fit indices place start (var ∷ vars) (port ∷ ports) (out ∷ outs) slices sized n e =
    let here = given-taken (map_out indices start (Some var) (Some port) out) _ slices e in
    let more = given-taken (map_outs indices place (start + array_size here.0.dims) vars ports outs) _ slices here.2 in
    let is : here.0 ∷ more.0 ≡ slices = cc (more.2) in
    let one = out-fits indices start var port out here.0 (All-head (λ (v : Var). IsSized v.shape) var vars sized) here.1 in
    let rest = outs-fit indices place (start + array_size here.0.dims) vars ports outs more.0 (All-tail (λ (v : Var). IsSized v.shape) var vars sized) (omega arith) more.1 in
    let first : FitOuts indices start (var ∷ vars) (port ∷ ports) (here.0 ∷ more.0) = record {
      each = All-cons (IsOutSlice indices) here.0 more.0 one.slice_is rest.each;
      tiles = (one.starts, rest.tiles);
      token = omega (arith, one.array, rest.token);
      element = omega (arith, one.cut, rest.element);
    } in
    subst (FitOuts indices start (var ∷ vars) (port ∷ ports)) is first

-- a located port is sized and lies within its token
located-fits : (start : ℕ) (vars : List Var) (name : List ℕ) (array : Located) → AllSized vars → lookup (bytes_eq name) (locations start vars) ≡ Some array →
    IsSized array.shape × (array.start + product array.shape.sizes ≤ start + total vars)
unfolding AllSized
located-fits start [] name array sized e = absurd cc
located-fits start (var ∷ vars) name array sized e =
    by (bytes_eq name var.name) refl (located-fits (start + product var.shape.sizes) vars name array (All-tail (λ (v : Var). IsSized v.shape) var vars sized))
  where
    by : (b : Bool) → bytes_eq name var.name ≡ b →
        (lookup (bytes_eq name) (locations (start + product var.shape.sizes) vars) ≡ Some array →
        IsSized array.shape × (array.start + product array.shape.sizes ≤ start + product var.shape.sizes + total vars)) →
        IsSized array.shape × (array.start + product array.shape.sizes ≤ start + (product var.shape.sizes + total vars))
    by true t rest =
        let made : Located = record { start = start; shape = var.shape } in
        let found : Some made ≡ Some array =
        sym (ap (λ b. cond b (Some made) (lookup (bytes_eq name) (locations (start + product var.shape.sizes) vars))) t) ∙ e in
        let is : made ≡ array = cc in
        subst (λ (l : Located). IsSized l.shape × (l.start + product l.shape.sizes ≤ start + (product var.shape.sizes + total vars))) is
        (All-head (λ (v : Var). IsSized v.shape) var vars sized, omega arith)
    by false t rest =
        let made : Located = record { start = start; shape = var.shape } in
        let found : lookup (bytes_eq name) (locations (start + product var.shape.sizes) vars) ≡ Some array =
        sym (ap (λ b. cond b (Some made) (lookup (bytes_eq name) (locations (start + product var.shape.sizes) vars))) t) ∙ e in
        let later = rest found in
        (later.0, omega (arith, later.1))

-- an in argument's slice with its numbers
pub record FitsIn (indices : List Index) (ins : ℕ) (port : Var) (slice : Slice) : Type 0 where
  pub slice_is : IsInSlice indices ins slice
  pub cut : cut_size slice.dims ≡ product port.shape.sizes

in-fits : (indices : List Index) (ins : ℕ) (array : Located) (port : Var) (arg : Arg) (u : Unit {0}) → are_indices indices ≡ true →
    IsSized array.shape → array.start + product array.shape.sizes ≤ ins → map_in_rule indices array (Some port) arg ≡ Ok u →
    FitsIn indices ins port (slice_of indices array.start arg array.shape)
in-fits indices ins array port arg u good sized within e =
    let one = first_of-after (broken_if (not (is_some (sliced arg.subs array.shape))) TypeDiffers arg.at.pos) _ u e in
    let two = first_of-after (members_rule indices [] arg.subs) _ u one in
    let three = first_of-after (sizes_rule indices arg.subs array.shape.sizes) _ u two in
    let members = first_of-first (members_rule indices [] arg.subs) _ u one in
    let sizes = first_of-first (sizes_rule indices arg.subs array.shape.sizes) _ u two in
    let left = left-of port arg.subs array.shape (kept-true _ TypeDiffers arg.at.pos u (first_of-first _ [] u three)) in
    let dims = in-dims indices arg.subs array.shape left.0 u left.1 good members in
    record {
      slice_is = record {
        sizes = slice-sizes indices array.start arg array.shape sized;
        free = dims-free indices arg.subs array.shape.sizes u good sizes;
        first = dims.0;
        second = dims.1;
        within = omega (arith, array_size-dims indices arg.subs array.shape.sizes, within);
      };
      cut = dims-cut indices arg.subs array.shape left.0 u good sizes left.1 ∙ sym left.2;
    }

-- the slices of in arguments
pub record FitIns (indices : List Index) (ins : ℕ) (ports : List Var) (slices : List Slice) : Type 0 where
  pub each : All (IsInSlice indices ins) slices
  pub element : element_size slices ≡ total ports
  pub count : length slices ≡ length ports

found-fits : (indices : List Index) (vars : List Var) (found : Option Located) (port : Var) (arg : Arg) (slice : Slice) → are_indices indices ≡ true → AllSized vars →
    located vars arg.at.name ≡ found → map_in indices found (Some port) arg ≡ Ok slice → FitsIn indices (total vars) port slice
found-fits indices vars None port arg slice good sized t e = absurd cc
found-fits indices vars (Some array) port arg slice good sized t e =
    let passed = given-taken (map_in_rule indices array (Some port) arg) _ slice e in
    let is : slice_of indices array.start arg array.shape ≡ slice = cc (passed.2) in
    let there = located-fits 0 vars arg.at.name array sized t in
    subst (FitsIn indices (total vars) port) is
    (in-fits indices (total vars) array port arg passed.0 good there.0 (omega (arith, there.1)) passed.1)

ins-fit : (indices : List Index) (vars ports : List Var) (args : List Arg) (slices : List Slice) → are_indices indices ≡ true → AllSized vars →
    length args ≡ length ports → map_ins indices vars ports args ≡ Ok slices → FitIns indices (total vars) ports slices
ins-fit indices vars [] [] slices good sized n e =
    let is : [] ≡ slices = cc in
    let first : FitIns indices (total vars) [] [] = record { each = All-nil (IsInSlice indices (total vars)); element = refl; count = refl } in
    subst (FitIns indices (total vars) []) is first
ins-fit indices vars (port ∷ ports) [] slices good sized n e = absurd (omega arith)
ins-fit indices vars [] (arg ∷ args) slices good sized n e = absurd (omega arith)
ins-fit indices vars (port ∷ ports) (arg ∷ args) slices good sized n e =
    let here = given-taken (map_in indices (located vars arg.at.name) (Some port) arg) _ slices e in
    let more = given-taken (map_ins indices vars ports args) _ slices here.2 in
    let is : here.0 ∷ more.0 ≡ slices = cc (more.2) in
    let one = found-fits indices vars (located vars arg.at.name) port arg here.0 good sized refl here.1 in
    let rest = ins-fit indices vars ports args more.0 good sized (omega arith) more.1 in
    let first : FitIns indices (total vars) (port ∷ ports) (here.0 ∷ more.0) = record {
      each = All-cons (IsInSlice indices (total vars)) here.0 more.0 one.slice_is rest.each;
      element = omega (arith, one.cut, rest.element);
      count = omega (arith, rest.count);
    } in
    subst (FitIns indices (total vars) (port ∷ ports)) is first

-- a free index that is somewhere has a size
pick-first : (f s : ℕ) (p : Place) (n rest : ℕ) → HasIndexSize f s p n → IsSize n → 1 ≤ one_at_first p + rest → (1 ≤ rest → 1 ≤ f) → 1 ≤ f
pick-first f s First n rest h g m k = omega (arith, h, g.0)
pick-first f s Rest n rest h g m k = k (omega arith)
pick-first f s Second n rest h g m k = k (omega arith)

pick-second : (f s : ℕ) (p : Place) (n rest : ℕ) → HasIndexSize f s p n → IsSize n → 1 ≤ one_at_second p + rest → (1 ≤ rest → 1 ≤ s) → 1 ≤ s
pick-second f s Second n rest h g m k = omega (arith, h, g.0)
pick-second f s Rest n rest h g m k = k (omega arith)
pick-second f s First n rest h g m k = k (omega arith)

first-some : (f s : ℕ) (dims : List Dim) → All (λ (d : Dim). HasIndexSize f s d.place d.size) dims → All (λ (d : Dim). IsSize d.size) dims →
    1 ≤ first_count dims → 1 ≤ f
first-some f s [] free sizes h = absurd (omega arith)
first-some f s (d ∷ dims) free sizes h =
    pick-first f s d.place d.size (first_count dims)
    (All-head (λ (x : Dim). HasIndexSize f s x.place x.size) d dims free) (All-head (λ (x : Dim). IsSize x.size) d dims sizes) h
    (λ more. first-some f s dims (All-tail (λ (x : Dim). HasIndexSize f s x.place x.size) d dims free) (All-tail (λ (x : Dim). IsSize x.size) d dims sizes) more)

second-some : (f s : ℕ) (dims : List Dim) → All (λ (d : Dim). HasIndexSize f s d.place d.size) dims → All (λ (d : Dim). IsSize d.size) dims →
    1 ≤ second_count dims → 1 ≤ s
second-some f s [] free sizes h = absurd (omega arith)
second-some f s (d ∷ dims) free sizes h =
    pick-second f s d.place d.size (second_count dims)
    (All-head (λ (x : Dim). HasIndexSize f s x.place x.size) d dims free) (All-head (λ (x : Dim). IsSize x.size) d dims sizes) h
    (λ more. second-some f s dims (All-tail (λ (x : Dim). HasIndexSize f s x.place x.size) d dims free) (All-tail (λ (x : Dim). IsSize x.size) d dims sizes) more)

-- one index, or two
how_many : (indices : List Index) → are_indices indices ≡ true → ((length indices ≡ 1) × (second_size indices ≡ 1)) ⊎ (length indices ≡ 2)
how_many [] e = absurd cc
how_many (i ∷ []) e = inl (refl, refl)
how_many (i ∷ (j ∷ [])) e = inr refl
how_many (i ∷ (j ∷ (k ∷ more))) e = absurd cc

tokens-some : (slices : List Slice) → 1 ≤ token_size slices → 1 ≤ length slices
tokens-some [] h = absurd (omega arith)
tokens-some (slice ∷ slices) h = omega arith

-- the slice that comes first
nothing : Slice
nothing = record { start = 0; dims = [] }

-- the cut of a map, and the sizes of its arrays
pub record IsFittingCut (cut : Cut) (ins outs : ℕ) (callee : Ports) : Type 0 where
  pub in_sizes : All HasSizes cut.ins
  pub out_sizes : All HasSizes cut.outs
  pub cuts : IsLawfulCut cut ins outs (total callee.ins) (total callee.outs)

module _ (indices : List Index) (vars_in vars_out : List Var) (callee : Ports) (ins outs : List Slice)
    (fit_outs : FitOuts indices 0 vars_out callee.outs outs) (fit_ins : FitIns indices (total vars_in) callee.ins ins)
    (some_out : 1 ≤ length outs) (some_in : 1 ≤ length ins) where
  cut : Cut
  cut = record { first = first_size indices; second = second_size indices; ins = ins; outs = outs }

  good : are_indices indices ≡ true
  good = (fit_outs.each 0 nothing some_out).good

  outs-lawful : HasLawfulOuts cut
  unfolding cut
  outs-lawful =
      let here = fit_outs.each 0 nothing some_out in
      record {
        some_first = first-some _ _ _ here.free here.sizes.1 (omega (arith, here.first));
        some_second = elim (how_many indices good) [
          | inl one ↦ omega (arith, one.1)
          | inr two ↦ second-some _ _ _ here.free here.sizes.1 (omega (arith, here.second, two))
        ];
        some_out = some_out;
        out_sizes = λ k d h. (fit_outs.each k d h).free;
        out_first = λ k d h. (fit_outs.each k d h).first;
        out_second = elim (how_many indices good) [
          | inl one ↦ inr (one.1, λ k d h. omega (arith, (fit_outs.each k d h).second, one.0))
          | inr two ↦ inl (λ k d h. omega (arith, (fit_outs.each k d h).second, two))
        ];
        out_tiles = fit_outs.tiles;
      }

  ins-lawful : HasLawfulIns cut (total vars_in)
  unfolding cut
  ins-lawful = record {
    some_in = some_in;
    in_sizes = λ k d h. (fit_ins.each k d h).free;
    in_first = λ k d h. (fit_ins.each k d h).first;
    in_second = elim (how_many indices good) [
      | inl one ↦ λ k d h. omega (arith, (fit_ins.each k d h).second, one.0)
      | inr two ↦ λ k d h. omega (arith, (fit_ins.each k d h).second, two)
    ];
    in_second_of_outs = λ none k d h.
        omega (arith, (fit_ins.each k d h).second, (fit_outs.each 0 nothing some_out).second, none 0 nothing some_out);
    in_within = λ k d h. (fit_ins.each k d h).within;
  }

  made-fits : IsFittingCut cut (total vars_in) (total vars_out) callee
  unfolding cut
  made-fits = record {
    in_sizes = λ k d h. (fit_ins.each k d h).sizes;
    out_sizes = λ k d h. (fit_outs.each k d h).sizes;
    cuts = record {
      lawful_outs = outs-lawful;
      lawful_ins = ins-lawful;
      outs_end = fit_outs.token;
      part_ins_fit = fit_ins.element;
      part_outs_fit = fit_outs.element;
    };
  }

-- a map that passes
pub cut-fits : (ports callee : Ports) (call : Call) (cut : Cut) → AreSized ports.ins → AreSized ports.outs →
    1 ≤ length ports.outs → 1 ≤ length call.ins → length call.ins ≡ length callee.ins → length call.outs ≡ length callee.outs →
    cut_of ports callee call ≡ Ok cut → IsFittingCut cut (total ports.ins) (total ports.outs) callee
unfolding AllSized cut
cut-fits ports callee call made sized_ins sized_outs some_out some_in n m e =
    let indices : List Index = indices_of ports.outs call.outs in
    let outs = given-taken (map_outs indices call.at.pos 0 ports.outs callee.outs call.outs) _ made e in
    let ins = given-taken (map_ins indices ports.ins callee.ins call.ins) _ made outs.2 in
    let fit_outs = outs-fit indices call.at.pos 0 ports.outs callee.outs call.outs outs.0 sized_outs.each m outs.1 in
    let some : 1 ≤ length outs.0 = tokens-some outs.0 (omega (arith, fit_outs.token, total-some ports.outs sized_outs some_out)) in
    let fit_ins = ins-fit indices ports.ins callee.ins call.ins ins.0 (fit_outs.each 0 nothing some).good sized_ins.each n ins.1 in
    let is : cut indices ports.ins ports.outs callee ins.0 outs.0 fit_outs fit_ins some (omega (arith, fit_ins.count, n)) ≡ made = cc (ins.2) in
    subst (λ c. IsFittingCut c (total ports.ins) (total ports.outs) callee) is
    (made-fits indices ports.ins ports.outs callee ins.0 outs.0 fit_outs fit_ins some (omega (arith, fit_ins.count, n)))
