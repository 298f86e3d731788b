-- WHAT A TEMPLATE PLACES READS AND WRITES EACH CHANNEL ONCE: its in channel and its own are read, its out channel and its own are
-- written, if its inner parts do so (`whole_once`).
use Rattle.std.proofs.Common.{◌≡◌, ℕ, suc, ◌+◌, ◌<◌, List, [], ◌∷◌, ◌++◌, length, get_or, refl, ap, ◌∙◌, arith, length-append}
use Rattle.std.proofs.lemmas.Grind.{flat_map-append}
use Rattle.p3l_skel.specs.declared.tree.Tree.{Tree}
use Rattle.p3l_firing.specs.declared.process.Proc.{Proc}
use Rattle.p3l_firing.specs.Process.{all_ins, all_outs, times}
use Rattle.p3l_template.specs.Placed.{IsLawfulShape}
use Rattle.p3l_template.specs.Shape.{Base, Slot, Blueprint, no_slot, numbers_from}
use Rattle.p3l_template.specs.Typing.{IsTypedShape, slot_ins, slot_outs}
use Rattle.p3l_template.specs.laws.TimesLaw.{numbers_append, times_append, times_cons}
use Rattle.p3l_link.specs.Net.{Piece, base_at, inner_pieces, whole_piece}

-- a piece at a base reads its in channel and its own channels, and writes its out channel and its own, each once
pub record HasOnce (base : Base) (F : Piece) : Type 0 where
  pub reads : (c : ℕ) → times c (all_ins F.procs) ≡ times c (base.input ∷ numbers_from base.chan (length F.chans))
  pub writes : (c : ℕ) → times c (all_outs F.procs) ≡ times c (base.output ∷ numbers_from base.chan (length F.chans))

-- the same of the inner parts at these slots, whose channels are those from e on
pub record HaveOnce (slots : List Slot) (e : ℕ) (F : Piece) : Type 0 where
  pub reads : (c : ℕ) → times c (all_ins F.procs) ≡ times c (slot_ins slots) + times c (numbers_from e (length F.chans))
  pub writes : (c : ℕ) → times c (all_outs F.procs) ≡ times c (slot_outs slots) + times c (numbers_from e (length F.chans))

pub ins_append : (c : ℕ) (ps qs : List Proc) → times c (all_ins (ps ++ qs)) ≡ times c (all_ins ps) + times c (all_ins qs)
ins_append c ps qs = ap (times c) (flat_map-append (λ (q : Proc). q.ins) ps qs) ∙ times_append c (all_ins ps) (all_ins qs)

pub outs_append : (c : ℕ) (ps qs : List Proc) → times c (all_outs (ps ++ qs)) ≡ times c (all_outs ps) + times c (all_outs qs)
outs_append c ps qs = ap (times c) (flat_map-append (λ (q : Proc). q.outs) ps qs) ∙ times_append c (all_outs ps) (all_outs qs)

pub numbers_split : (c x n k : ℕ) → times c (numbers_from x (n + k)) ≡ times c (numbers_from x n) + times c (numbers_from (x + n) k)
numbers_split c x n k = ap (times c) (numbers_append x n k) ∙ times_append c (numbers_from x n) (numbers_from (x + n) k)

pub inner_once : (f : ℕ → Base → Piece) (slots : List Slot) (p e : ℕ) →
    ((v : ℕ) → v < length slots → (b : Base) → HasOnce b (f (get_or slots v no_slot).part b)) → HaveOnce slots e (inner_pieces f slots p e)
unfolding inner_pieces numbers_from
inner_once f [] p e each = record { reads = λ c. refl; writes = λ c. refl }
inner_once f (x ∷ xs) p e each =
    let b : Base = base_at x p e in
    let F : Piece = f x.part b in
    let here : HasOnce b F = each 0 (omega arith) b in
    let G : Piece = inner_pieces f xs (p + length F.procs) (e + length F.chans) in
    let rest : HaveOnce xs (e + length F.chans) G = inner_once f xs (p + length F.procs) (e + length F.chans) (λ v low b. each (suc v) (omega (arith, low)) b) in
    let many : length (F.chans ++ G.chans) ≡ length F.chans + length G.chans = length-append F.chans G.chans in
    record {
      reads = λ c. omega (
        arith,
        ins_append c F.procs G.procs,
        here.reads c,
        rest.reads c,
        times_cons c x.input (numbers_from e (length F.chans)),
        times_cons c x.input (slot_ins xs),
        ap (λ n. times c (numbers_from e n)) many,
        numbers_split c e (length F.chans) (length G.chans),
      );
      writes = λ c. omega (
        arith,
        outs_append c F.procs G.procs,
        here.writes c,
        rest.writes c,
        times_cons c x.output (numbers_from e (length F.chans)),
        times_cons c x.output (slot_outs xs),
        ap (λ n. times c (numbers_from e n)) many,
        numbers_split c e (length F.chans) (length G.chans),
      );
    }

-- a template round inner parts that do so
pub whole_once : (tree : Tree) (k cap : ℕ) (shape : Blueprint) → IsLawfulShape shape → IsTypedShape tree k shape → (f : ℕ → Base → Piece)
    (base : Base) → ((v : ℕ) → v < length (shape.slots base) → (b : Base) → HasOnce b (f (get_or (shape.slots base) v no_slot).part b)) →
    HasOnce base (whole_piece shape cap f base)
whole_once tree k cap shape law typed f base each =
    let slots : List Slot = shape.slots base in
    let own = shape.laid cap base in
    let G : Piece = inner_pieces f slots (base.proc + length (shape.procs base)) (base.chan + shape.chans base) in
    let rest : HaveOnce slots (base.chan + shape.chans base) G = inner_once f slots (base.proc + length (shape.procs base)) (base.chan + shape.chans base) each in
    let long : length own ≡ shape.chans base = law.laid cap base in
    let many : length (own ++ G.chans) ≡ shape.chans base + length G.chans = omega (arith, length-append own G.chans, long) in
    record {
      reads = λ c. omega (
        arith,
        ins_append c (shape.procs base) G.procs,
        rest.reads c,
        typed.reads base c,
        times_append c (all_ins (shape.procs base)) (slot_ins slots),
        times_cons c base.input (numbers_from base.chan (shape.chans base)),
        times_cons c base.input (numbers_from base.chan (length (own ++ G.chans))),
        ap (λ n. times c (numbers_from base.chan n)) many,
        numbers_split c base.chan (shape.chans base) (length G.chans),
      );
      writes = λ c. omega (
        arith,
        outs_append c (shape.procs base) G.procs,
        rest.writes c,
        typed.writes base c,
        times_append c (all_outs (shape.procs base)) (slot_outs slots),
        times_cons c base.output (numbers_from base.chan (shape.chans base)),
        times_cons c base.output (numbers_from base.chan (length (own ++ G.chans))),
        ap (λ n. times c (numbers_from base.chan n)) many,
        numbers_split c base.chan (shape.chans base) (length G.chans),
      );
    }
