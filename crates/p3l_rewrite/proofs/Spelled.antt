-- The modules that a rewriting adds are spelled where the pipe and its stages are.
use Rattle.std.proofs.Common.{◌≡◌, Bool, true, false, cond, List, [], ◌∷◌, ◌++◌, map, Option, None, refl, ap, sym, ◌∙◌, subst, codes}
use Rattle.p3l_ast.specs.declared.position.Spot.{Spot}
use Rattle.p3l_ast.specs.declared.call.Call.{Call}
use Rattle.p3l_ast.specs.declared.module.Kind.{Kind}
use Rattle.p3l_ast.specs.declared.module.Kind.TheVariants as kinds
use Rattle.p3l_ast.specs.declared.module.Rescue.{Rescue}
use Rattle.p3l_ast.specs.Tree.{ModuleTree, calls, defined}
use Rattle.p3l_grammar.specs.Symbol.{Symbol, word}
use Rattle.p3l_grammar.specs.Written.{Signature, Passage, fixed, bodied, chained, spread, turned, HasOne, AreCalls, IsSignature, IsChain, IsSpread, IsPassage, each, spell_call, spell_port, spell_signature, spell_rescue_clause, spell_end, spell_passage, chain_filling, passage_tree}
use Rattle.p3l_print.proofs.Nesting.{rest_chained, rest_spread}
use Rattle.p3l_print.proofs.Writing.{IsWritable, AreWritable, spell_interface}
use Rattle.p3l_print.proofs.Joining.{IsSpelled}
use Rattle.p3l_rewrite.specs.Candidates.{plain, plain_out, longer, call_with, farm_with, is_among, farm_called, with_calls, work_of}
use Rattle.p3l_rewrite.proofs.Fronts.{each_front, ports_front, arguments_front, call_front, rescue_front, plain_arguments}
use Rattle.p3l_rewrite.proofs.Names.{work_name}

-- the name of a module can be written, and its ports in front of some symbols
pub record HasHead (m : ModuleTree) : Type 0 where
  pub ins : HasOne m.ins
  pub outs : HasOne m.outs
  pub named : IsWritable (word m.at)
  pub rest : List Symbol
  pub ports : AreWritable (spell_interface spell_port m.ins spell_port m.outs rest)

pub has_head : (m : ModuleTree) → IsSpelled (defined m) → HasHead m
has_head m is = by is.passage is.rest is.proper is.tree_is is.writable
  where
    same : (n : ModuleTree) → defined n ≡ defined m → HasHead n → HasHead m
    same n e h = subst HasHead (let p : n ≡ m = cc in p) h

    by : (i : Passage) (r : List Symbol) → IsPassage i → passage_tree i ≡ defined m → AreWritable (spell_passage i r) → HasHead m
    by (fixed x v p) r proper e h = absurd cc
    by (bodied g b x ls c) r proper e h = same _ e (record { ins = proper.0.0; outs = proper.0.1; named = h.1.0; rest = _; ports = h.1.1 })
    by (chained k g x cs) r proper e h = same _ e (record { ins = proper.1.0; outs = proper.1.1; named = h.1.0; rest = _; ports = h.1.1 })
    by (spread k g w c) r proper e h = same _ e (record { ins = proper.1.0; outs = proper.1.1; named = h.1.0; rest = _; ports = h.1.1 })
    by (turned g t n b c) r proper e h = same _ e (record { ins = proper.0.0; outs = proper.0.1; named = h.1.0; rest = _; ports = h.1.1 })

some_mapped : {A B : Type 0} (f : A → B) (xs : List A) → HasOne xs → HasOne (map f xs)
some_mapped f [] some = absurd some
some_mapped f (x ∷ xs) some = tt

-- a farm with a module's ports
pub farm_spelled : (at worker : Spot) (m : ModuleTree) → IsWritable (word at) → IsWritable (word worker) → HasHead m → IsSpelled (defined (farm_with at worker m.ins m.outs))
farm_spelled at worker m named called head =
    let g : Signature = record { at = at; ins = m.ins; outs = m.outs } in
    let c = call_with worker m.ins m.outs in
    let end = spell_end kinds.Farm [] in
    let arguments = plain_arguments m.ins m.outs head.rest end head.ports (tt, (tt, tt)) in
    let ports = (ports_front m.ins m.outs).enters head.rest (spell_call c end) head.ports (called, arguments) in record {
      passage = spread kinds.Farm g None c;
      rest = [];
      proper = (tt, (head.ins, head.outs), (some_mapped plain m.ins head.ins, some_mapped plain_out m.outs head.outs));
      tree_is = refl;
      writable = (tt, (named, ports));
      within = (rest_spread kinds.Farm g None c).enters [] tt;
    }

-- a pipe's calls can be written behind its head
pub record IsPipe (m : ModuleTree) (cs : List Call) : Type 0 where
  pub g : Signature
  pub rescue : Option Rescue
  pub rest : List Symbol
  pub m_is : m ≡ record { kind = kinds.Pipe; at = g.at; ins = g.ins; outs = g.outs; clauses = (chain_filling rescue cs).clauses; inside = calls cs }
  pub chain : IsChain kinds.Pipe rescue
  pub some : IsSignature g
  pub some_call : HasOne cs
  pub proper : AreCalls cs
  pub writable : AreWritable (spell_signature g (spell_rescue_clause rescue (each spell_call cs (spell_end kinds.Pipe rest))))

pub is_pipe : (m : ModuleTree) (cs : List Call) → m.kind ≡ kinds.Pipe → m.inside ≡ calls cs → IsSpelled (defined m) → IsPipe m cs
is_pipe m cs kind inside is = by is.passage is.rest is.proper is.tree_is is.writable
  where
    by : (i : Passage) (r : List Symbol) → IsPassage i → passage_tree i ≡ defined m → AreWritable (spell_passage i r) → IsPipe m cs
    by (fixed x v p) r proper e h = absurd cc
    by (bodied g b x ls c) r proper e h = absurd cc
    by (spread k g w c) r proper e h =
        let k_is : k ≡ kinds.Pipe = cc in
        absurd (subst IsSpread k_is proper.0)
    by (turned g t n b c) r proper e h = absurd cc
    by (chained k g x ds) r proper e h =
        let k_is : k ≡ kinds.Pipe = cc in
        let ds_are : ds ≡ cs = cc in
        subst (IsPipe m) ds_are (piped k k_is g x ds r (let q = e in cc) proper h)
      where
        piped : (k : Kind) → k ≡ kinds.Pipe → (g : Signature) (x : Option Rescue) (ds : List Call) (r : List Symbol)
            → m ≡ record { kind = k; at = g.at; ins = g.ins; outs = g.outs; clauses = (chain_filling x ds).clauses; inside = calls ds }
            → IsPassage (chained k g x ds) → AreWritable (spell_passage (chained k g x ds) r) → IsPipe m ds
        piped kinds.Pipe k_is g x ds r m_is proper h = record {
          g = g;
          rescue = x;
          rest = r;
          m_is = m_is;
          chain = proper.0;
          some = proper.1;
          some_call = proper.2;
          proper = proper.3;
          writable = h.1;
        }
        piped kinds.Seq k_is g x ds r m_is proper h = absurd cc
        piped kinds.Comp k_is g x ds r m_is proper h = absurd cc
        piped kinds.Farm k_is g x ds r m_is proper h = absurd cc
        piped kinds.Map k_is g x ds r m_is proper h = absurd cc
        piped kinds.Reduce k_is g x ds r m_is proper h = absurd cc
        piped kinds.Loop k_is g x ds r m_is proper h = absurd cc

-- a comp of the calls of `main`
pub work_spelled : (m : ModuleTree) (cs : List Call) → m.at.name ≡ codes "main" → IsPipe m cs → IsSpelled (defined (work_of m cs))
work_spelled m cs name is =
    subst (λ (n : ModuleTree). IsSpelled (defined (work_of n cs))) (sym is.m_is)
    (record {
      passage = chained kinds.Comp g None cs;
      rest = [];
      proper = (tt, is.some, is.some_call, is.proper);
      tree_is = refl;
      writable = (tt, (work_name is.g.at (sym (ap (λ (n : ModuleTree). n.at.name) is.m_is) ∙ name), ports));
      within = (rest_chained kinds.Comp g None cs).enters [] tt;
    })
  where
    g : Signature
    g = record { at = longer (codes "_work") is.g.at; ins = is.g.ins; outs = is.g.outs }

    written : List Symbol
    written = each spell_call cs (spell_end kinds.Pipe is.rest)

    ports : AreWritable (spell_interface spell_port is.g.ins spell_port is.g.outs (each spell_call cs (spell_end kinds.Comp [])))
    ports =
        let head = ports_front is.g.ins is.g.outs in
        let behind = (rescue_front is.rescue).leaves written (head.leaves (spell_rescue_clause is.rescue written) is.writable.1) in
        head.enters (spell_rescue_clause is.rescue written) (each spell_call cs (spell_end kinds.Comp [])) is.writable.1
        ((each_front spell_call call_front cs).enters (spell_end kinds.Pipe is.rest) (spell_end kinds.Comp []) behind (tt, (tt, tt)))

-- `main` with calls of farms

-- the farms of called modules have names that can be written
abbrev pub FarmsAreNamed : List ModuleTree → Type 0
FarmsAreNamed farms = (x : Spot) → is_among farms (x.name ++ codes "_farm") ≡ true → IsWritable (word (longer (codes "_farm") x))

module _ (farms : List ModuleTree) (named : FarmsAreNamed farms) where
  call_farmed : (c : Call) (r s : List Symbol) → AreWritable (spell_call c r) → AreWritable s → AreWritable (spell_call (farm_called farms c) s)
  call_farmed c r s h k = by (is_among farms (c.at.name ++ codes "_farm")) refl
    where
      by : (b : Bool) → is_among farms (c.at.name ++ codes "_farm") ≡ b → AreWritable (spell_call (cond b (record { at = longer (codes "_farm") c.at; ins = c.ins; outs = c.outs }) c) s)
      by true e = (named c.at e, (arguments_front c).enters r s h.1 k)
      by false e = (call_front c).enters r s h k

  calls_farmed : (cs : List Call) (r s : List Symbol) → AreWritable (each spell_call cs r) → AreWritable s → AreWritable (each spell_call (map (farm_called farms) cs) s)
  calls_farmed [] r s h k = k
  calls_farmed (c ∷ cs) r s h k =
      call_farmed c (each spell_call cs r) (each spell_call (map (farm_called farms) cs) s) h (calls_farmed cs r s ((call_front c).leaves (each spell_call cs r) h) k)

  calls_proper : (cs : List Call) → AreCalls cs → AreCalls (map (farm_called farms) cs)
  calls_proper [] proper = tt
  calls_proper (c ∷ cs) proper = (by (is_among farms (c.at.name ++ codes "_farm")), calls_proper cs proper.1)
    where
      by : (b : Bool) → HasOne (cond b (record { at = longer (codes "_farm") c.at; ins = c.ins; outs = c.outs }) c).ins × HasOne (cond b (record { at = longer (codes "_farm") c.at; ins = c.ins; outs = c.outs }) c).outs
      by true = proper.0
      by false = proper.0

  pub main_spelled : (m : ModuleTree) (cs : List Call) → IsPipe m cs → IsSpelled (defined (with_calls m (map (farm_called farms) cs)))
  main_spelled m cs is =
      subst (λ (n : ModuleTree). IsSpelled (defined (with_calls n called))) (sym is.m_is)
      (record {
        passage = chained kinds.Pipe is.g is.rescue called;
        rest = [];
        proper = (is.chain, is.some, some_mapped (farm_called farms) cs is.some_call, calls_proper cs is.proper);
        tree_is = refl;
        writable = (tt, (is.writable.0, ports));
        within = (rest_chained kinds.Pipe is.g is.rescue called).enters [] tt;
      })
    where
      called : List Call
      called = map (farm_called farms) cs

      written : List Symbol
      written = each spell_call cs (spell_end kinds.Pipe is.rest)

      ports : AreWritable (spell_interface spell_port is.g.ins spell_port is.g.outs (spell_rescue_clause is.rescue (each spell_call called (spell_end kinds.Pipe []))))
      ports =
          let head = ports_front is.g.ins is.g.outs in
          let clause = head.leaves (spell_rescue_clause is.rescue written) is.writable.1 in
          let behind = (rescue_front is.rescue).leaves written clause in
          head.enters (spell_rescue_clause is.rescue written) (spell_rescue_clause is.rescue (each spell_call called (spell_end kinds.Pipe []))) is.writable.1
          ((rescue_front is.rescue).enters written (each spell_call called (spell_end kinds.Pipe [])) clause
          (calls_farmed cs (spell_end kinds.Pipe is.rest) (spell_end kinds.Pipe []) behind (tt, (tt, tt))))
