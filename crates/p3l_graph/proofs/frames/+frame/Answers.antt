use Rattle.std.proofs.Common.{◌≡◌, ℕ, ◌-◌, ◌<◌, ◌≤◌, List, ◌++◌, length, refl, subst, sym, ap, ◌∙◌, arith, append_assoc}
use Rattle.std.specs.Prelude.{Some, codes, string_bytes, slice_get}
use Rattle.std.specs.List.{flat_map}
use Rattle.std.proofs.lemmas.List.{append-nil}
use Rattle.std.proofs.lemmas.Option.{slice_get_past, slice_get_read}
use Rattle.p3l_skel.specs.declared.tree.Node.{Node}
use Rattle.p3l_graph.specs.Frames.{frame_head, frame_to, members}
use Rattle.p3l_graph.proofs.FrameSteps.{frame_to-step, frame_to-zero}
use Rattle.p3l_graph.proofs.frames.+frame.Goals as goal

pub put_frame-returns-then-levels-eq0 : goal.put_frame-returns-then-levels-eq0
put_frame-returns-then-levels-eq0 t c = rw (c.if-levels-eq0.true, frame_to-zero) (sym (append-nil (string_bytes c.args.text.now)))

pub put_frame-returns-in_default : goal.put_frame-returns-in_default
put_frame-returns-in_default t c =
    let k = c.args.number in
    let nodes : List Node = c.args.tree.now.nodes in
    let some : 0 < c.args.levels = omega (arith, c.if-levels-eq0.false) in
    let past : length nodes ≤ k = subst (λ (xs : List Node). length xs ≤ k) c.as_slice.ensures c.in_default.ensures.lookup.3 in
    rw (frame_to-step c.args.tree.now c.args.net.now c.args.levels k some, slice_get_past nodes k past)
    (sym (append-nil (string_bytes c.args.text.now)))

pub put_frame-returns-in-None : goal.put_frame-returns-in-None
put_frame-returns-in-None t c =
    let k = c.args.number in
    let nodes : List Node = c.args.tree.now.nodes in
    let node = c.in-Some.node.now in
    let some : 0 < c.args.levels = omega (arith, c.if-levels-eq0.false) in
    let read = c.in-Some.ensures.lookup in
    let found : slice_get nodes k ≡ Some node =
    subst (λ (xs : List Node). slice_get xs k ≡ Some node) c.as_slice.ensures (slice_get_read c.as_slice.result.now (length c.as_slice.result.now) k node refl read.3.0 read.1) in
    rw (frame_to-step c.args.tree.now c.args.net.now c.args.levels k some, found, c.in-None.ensures.none, ← c.outside_parts-parts.ensures)
    c.put_inner.ensures

pub put_frame-returns-in_ok-push_str-in-Some-frame_name : goal.put_frame-returns-in_ok-push_str-in-Some-frame_name
put_frame-returns-in_ok-push_str-in-Some-frame_name t c =
    let k = c.args.number in
    let tree = c.args.tree.now in
    let nodes : List Node = tree.nodes in
    let node = c.in-Some.node.now in
    let some : 0 < c.args.levels = omega (arith, c.if-levels-eq0.false) in
    let read = c.in-Some.ensures.lookup in
    let found : slice_get nodes k ≡ Some node =
    subst (λ (xs : List Node). slice_get xs k ≡ Some node) c.as_slice.ensures (slice_get_read c.as_slice.result.now (length c.as_slice.result.now) k node refl read.3.0 read.1) in
    let text : List ℕ = string_bytes c.args.text.now in
    let head : List ℕ = frame_head tree k c.in-Some-frame_name.kind.now in
    let inner : List ℕ = members c.args.net.now k ++ flat_map (frame_to tree c.args.net.now (c.args.levels - 1)) c.outside_parts-parts.result.now in
    rw (frame_to-step tree c.args.net.now c.args.levels k some, found, c.in-Some-frame_name.ensures.some, ← c.outside_parts-parts.ensures)
    (c.in_ok-push_str-in-Some-frame_name.ensures.bytes
    ∙ ap (λ bytes. bytes ++ codes "  }\n") (c.in_ok-put_inner-in-Some-frame_name.ensures ∙ ap (λ bytes. bytes ++ inner) c.in_ok-put_head-in-Some-frame_name.ensures)
    ∙ append_assoc (text ++ head) inner (codes "  }\n")
    ∙ append_assoc text head (inner ++ codes "  }\n"))
