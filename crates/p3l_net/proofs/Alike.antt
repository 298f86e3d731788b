-- Readiness of a process depends on the first tokens of the channels that it reads, and on room in those that it writes.
use Rattle.std.proofs.Common.{◌≡◌, ℕ, ◌<◌, ◌&&◌, ◌||◌, Bool, true, false, cond, nat_eq, nat_lt, nat_le, List, [], ◌∷◌, length, Option, Some, None, refl, sym, ap, ap₂, ◌∙◌, arith, leb-false, inl, inr}
use Rattle.std.specs.Option.{is_some}
use Rattle.std.proofs.lemmas.Bool.{ltb-true}
use Rattle.p3l_skel.specs.declared.tree.Tree.{Tree}
use Rattle.p3l_firing.specs.declared.process.Proc.{Proc}
use Rattle.p3l_firing.specs.declared.process.ProcKind.{ProcKind}
use Rattle.p3l_firing.specs.declared.process.ProcKind.TheVariants as kinds
use Rattle.p3l_firing.specs.declared.net.Net.{Net}
use Rattle.p3l_firing.specs.declared.token.Token.{Token}
use Rattle.p3l_firing.specs.Lists.{has_first, first_or}
use Rattle.p3l_firing.specs.Token.{credit, newest_tag}
use Rattle.p3l_firing.specs.State.{LocalState, State, has_room}
use Rattle.p3l_firing.specs.Process.{Has, in_of, out_of}
use Rattle.p3l_firing.specs.Widths.{Widths}
use Rattle.p3l_firing.specs.Fire.{row_can}
use Rattle.p3l_firing.specs.Typed.{FitsKind}
use Rattle.p3l_firing.specs.kinds.Source as source
use Rattle.p3l_firing.specs.kinds.Sink as sink
use Rattle.p3l_firing.specs.kinds.Run as run
use Rattle.p3l_firing.specs.kinds.Emit as emit
use Rattle.p3l_firing.specs.kinds.Collect as collect
use Rattle.p3l_firing.specs.kinds.Scatter as scatter
use Rattle.p3l_firing.specs.kinds.Gather as gather
use Rattle.p3l_firing.specs.kinds.Split as split
use Rattle.p3l_firing.specs.kinds.FoldGather as fold_gather
use Rattle.p3l_firing.specs.kinds.Join as join
use Rattle.p3l_firing.specs.kinds.Head as head
use Rattle.p3l_firing.specs.kinds.Tail as tail
use Rattle.p3l_firing.specs.kinds.Emit.{fewer, emptiest}
use Rattle.p3l_firing.specs.kinds.Collect.{front_is, due_in}
use Rattle.p3l_firing.specs.kinds.Tail.{has_number}
use Rattle.p3l_firing.proofs.Places.{first_in, has-nth}
use Rattle.p3l_firing.proofs.row.Scatter as scatter_row
use Rattle.p3l_firing.proofs.row.Gather as gather_row
use Rattle.p3l_firing.proofs.row.Join.{two_long}
use Rattle.p3l_firing.proofs.row.Head.{three_long}

-- two lists of tokens have the same first one, or none
pub record SameFirst (xs ys : List Token) : Type 0 where
  pub there : has_first xs ≡ has_first ys
  pub token : first_or credit xs ≡ first_or credit ys

-- to process q two states look alike
pub record LookAlike (net : Net) (s t : State) (q : Proc) : Type 0 where
  pub firsts : (c : ℕ) → Has q.ins c → SameFirst (s.tokens c) (t.tokens c)
  pub rooms : (c : ℕ) → Has q.outs c → has_room net s c ≡ has_room net t c
  pub item : q.kind ≡ kinds.Source → has_first s.unsent ≡ has_first t.unsent

-- some channel has room, whichever is chosen
some_either : (a b : Bool) (x y : ℕ) → is_some (cond (a && b) (Some x) (Some y)) ≡ (a || true)
some_either true true x y = refl
some_either true false x y = refl
some_either false b x y = refl

some_only : (a : Bool) (x : ℕ) → is_some (cond a (Some x) None) ≡ (a || false)
some_only true x = refl
some_only false x = refl

some_fewer : (net : Net) (s : State) (c : ℕ) (o : Option ℕ) → is_some (fewer net s c o) ≡ (has_room net s c || is_some o)
unfolding fewer
some_fewer net s c None = some_only (has_room net s c) c
some_fewer net s c (Some d) = some_either (has_room net s c) (nat_le (length (s.tokens c)) (length (s.tokens d))) c d

some_roomy : (net : Net) (s t : State) (cs : List ℕ) → ((c : ℕ) → Has cs c → has_room net s c ≡ has_room net t c) → is_some (emptiest net s cs) ≡ is_some (emptiest net t cs)
unfolding emptiest
some_roomy net s t [] same = refl
some_roomy net s t (c ∷ cs) same =
    some_fewer net s c (emptiest net s cs)
    ∙ ap₂ (λ a b. a || b) (same c (inl refl)) (some_roomy net s t cs (λ d h. same d (inr h)))
    ∙ sym (some_fewer net t c (emptiest net t cs))

-- the first token is due in both
same_due : (n : ℕ) (xs ys : List Token) → has_first xs ≡ has_first ys → first_or credit xs ≡ first_or credit ys → front_is n xs ≡ front_is n ys
unfolding front_is
same_due n [] [] there token = refl
same_due n [] (y ∷ ys) there token = cc
same_due n (x ∷ xs) [] there token = cc
same_due n (x ∷ xs) (y ∷ ys) there token = ap (λ z. nat_eq (newest_tag z) n) token

same_choice : (s t : State) (n : ℕ) (cs : List ℕ) → ((c : ℕ) → Has cs c → SameFirst (s.tokens c) (t.tokens c)) → due_in s n cs ≡ due_in t n cs
unfolding due_in
same_choice s t n [] same = refl
same_choice s t n (c ∷ cs) same =
    let first = same c (inl refl) in
    ap₂ (λ b o. cond b (Some c) o) (same_due n (s.tokens c) (t.tokens c) first.there first.token) (same_choice s t n cs (λ d h. same d (inr h)))

module _ (net : Net) (s t : State) (o : LocalState) (q : Proc) (alike : LookAlike net s t q) where
  comes : (c : ℕ) → Has q.ins c → has_first (s.tokens c) ≡ has_first (t.tokens c)
  comes c has = (alike.firsts c has).there

  source_alike : (tree : Tree) (widths : Widths) → source.Fits tree widths q → has_first s.unsent ≡ has_first t.unsent → source.can net s q ≡ source.can net t q
  unfolding source.can
  source_alike tree widths fits item = ap₂ (λ a b. a && b) item (alike.rooms (out_of q 0) (first_in q.outs fits.outs))

  sink_alike : (tree : Tree) (widths : Widths) → sink.Fits tree widths q → sink.can s q ≡ sink.can t q
  unfolding sink.can
  sink_alike tree widths fits = comes (in_of q 0) (first_in q.ins fits.ins)

  run_alike : (tree : Tree) (widths : Widths) → run.Fits tree widths q → run.can net s q ≡ run.can net t q
  unfolding run.can
  run_alike tree widths fits = ap₂ (λ a b. a && b) (comes (in_of q 0) (first_in q.ins fits.ins)) (alike.rooms (out_of q 0) (first_in q.outs fits.outs))

  emit_alike : (tree : Tree) (widths : Widths) → emit.Fits tree widths q → emit.can net s q ≡ emit.can net t q
  unfolding emit.can
  emit_alike tree widths fits = ap₂ (λ a b. a && b) (comes (in_of q 0) (first_in q.ins fits.ins)) (some_roomy net s t q.outs alike.rooms)

  collect_alike : (tree : Tree) (widths : Widths) → collect.Fits tree widths q → collect.can net s o q ≡ collect.can net t o q
  unfolding collect.can
  collect_alike tree widths fits = ap₂ (λ a b. a && b) (ap is_some (same_choice s t o.number q.ins alike.firsts)) (alike.rooms (out_of q 0) (first_in q.outs fits.outs))

  scatter_alike : (tree : Tree) (widths : Widths) → scatter.Fits tree widths q → scatter.can net s o q ≡ scatter.can net t o q
  unfolding scatter.can
  scatter_alike tree widths fits =
      ap₂ (λ a b. cond (has_first o.held) a b) (alike.rooms (scatter.line_of o q) (scatter_row.line_among o q fits)) (comes (in_of q 0) (first_in q.ins fits.ins))

  gather_alike : (tree : Tree) (widths : Widths) → gather.Fits tree widths q → gather.can tree net s o q ≡ gather.can tree net t o q
  unfolding gather.can
  gather_alike tree widths fits =
      ap₂ (λ a b. cond (gather.is_full tree o q) a b) (alike.rooms (out_of q 0) (first_in q.outs fits.outs)) (comes (gather.line_of o q) (gather_row.line_among o q fits))

  -- a number past the last segment has no channel
  room_or_not : (b : Bool) → nat_lt o.number (length q.outs) ≡ b → (b && has_room net s (out_of q o.number)) ≡ (b && has_room net t (out_of q o.number))
  room_or_not true e = alike.rooms (out_of q o.number) (has-nth q.outs o.number (ltb-true _ _ e))
  room_or_not false e = refl

  split_alike : (tree : Tree) (widths : Widths) → split.Fits tree widths q → split.can net s o q ≡ split.can net t o q
  unfolding split.can
  split_alike tree widths fits =
      ap₂ (λ a b. cond (has_first o.held) a b) (room_or_not (nat_lt o.number (length q.outs)) refl) (comes (in_of q 0) (first_in q.ins fits.ins))

  fold_gather_alike : (tree : Tree) (widths : Widths) → fold_gather.Fits tree widths q → fold_gather.can net s o q ≡ fold_gather.can net t o q
  unfolding fold_gather.can fold_gather.is_full
  fold_gather_alike tree widths fits = next (nat_le (length q.ins) (length o.held)) refl
    where
      next : (b : Bool) → nat_le (length q.ins) (length o.held) ≡ b → cond b (has_room net s (out_of q 0)) (has_first (s.tokens (fold_gather.line_of o q))) ≡ cond b (has_room net t (out_of q 0)) (has_first (t.tokens (fold_gather.line_of o q)))
      next true e = alike.rooms (out_of q 0) (first_in q.outs fits.outs)
      next false e = comes (fold_gather.line_of o q) (has-nth q.ins (length o.held) (leb-false _ _ e))

  join_alike : (tree : Tree) (widths : Widths) → join.Fits tree widths q → join.can net s q ≡ join.can net t q
  unfolding join.can
  join_alike tree widths fits =
      let long = two_long q.ins _ _ fits.ins in
      ap₂ (λ a b. a && b) (comes (in_of q 0) (has-nth q.ins 0 (omega (arith, long))))
      (ap₂ (λ a b. a && b) (comes (in_of q 1) (has-nth q.ins 1 (omega (arith, long)))) (alike.rooms (out_of q 0) (first_in q.outs fits.outs)))

  head_alike : (tree : Tree) (widths : Widths) → head.Fits tree widths q → head.can net s q ≡ head.can net t q
  unfolding head.can
  head_alike tree widths fits =
      let long = three_long q.ins _ _ _ fits.ins in
      ap₂ (λ a b. a && b) (alike.rooms (out_of q 0) (first_in q.outs fits.outs))
      (ap₂ (λ a b. a || b) (comes (in_of q 1) (has-nth q.ins 1 (omega (arith, long))))
      (ap₂ (λ a b. a && b) (comes (in_of q 0) (has-nth q.ins 0 (omega (arith, long)))) (comes (in_of q 2) (has-nth q.ins 2 (omega (arith, long))))))

  tail_alike : (tree : Tree) (widths : Widths) → tail.Fits tree widths q → tail.can net s o q ≡ tail.can net t o q
  unfolding tail.can tail.can_release
  tail_alike tree widths fits =
      let long = three_long q.outs _ _ _ fits.outs in
      let room : (k : ℕ) → k < 3 → has_room net s (out_of q k) ≡ has_room net t (out_of q k) = λ k less. alike.rooms (out_of q k) (has-nth q.outs k (omega (arith, long, less))) in
      ap₂ (λ a b. a || b) (ap₂ (λ a b. has_number o.number o.held && (a && b)) (room 0 (omega arith)) (room 2 (omega arith)))
      (ap₂ (λ a b. a && b) (comes (in_of q 0) (first_in q.ins fits.ins)) (room 1 (omega arith)))

  -- states that look alike to a process allow it the same
  pub can_alike : (tree : Tree) (widths : Widths) (k : ProcKind) → q.kind ≡ k → FitsKind k tree widths q → row_can k tree net s o q ≡ row_can k tree net t o q
  unfolding row_can
  can_alike tree widths kinds.Source kind fits = source_alike tree widths fits (alike.item kind)
  can_alike tree widths kinds.Sink kind fits = sink_alike tree widths fits
  can_alike tree widths kinds.Run kind fits = run_alike tree widths fits
  can_alike tree widths kinds.Emit kind fits = emit_alike tree widths fits
  can_alike tree widths kinds.Collect kind fits = collect_alike tree widths fits
  can_alike tree widths kinds.Scatter kind fits = scatter_alike tree widths fits
  can_alike tree widths kinds.Gather kind fits = gather_alike tree widths fits
  can_alike tree widths kinds.Split kind fits = split_alike tree widths fits
  can_alike tree widths kinds.FoldGather kind fits = fold_gather_alike tree widths fits
  can_alike tree widths kinds.Join kind fits = join_alike tree widths fits
  can_alike tree widths kinds.Head kind fits = head_alike tree widths fits
  can_alike tree widths kinds.Tail kind fits = tail_alike tree widths fits
