-- The code that a table runs for a `seq` node.
use Rattle.std.proofs.Common.{◌≡◌, ℕ, ℤ, zero, suc, ◌<◌, Bool, true, false, cond, List, [], ◌∷◌, length, get_or, Option, Some, None, refl, sym, ap, ◌∙◌, subst, arith}
use Rattle.std.specs.Prelude.{IsSomeAnd, slice_get}
use Rattle.std.proofs.lemmas.Option.{slice_get_read, get_or_from_slice_get}
use Rattle.p3l_skel.specs.declared.tree.Form.TheVariants as forms
use Rattle.p3l_skel.specs.declared.tree.ModuleInfo.{ModuleInfo}
use Rattle.p3l_skel.specs.Tree.{node_at, no_node, rescue_of}
use Rattle.p3l_skel.specs.Item.{rescued}
use Rattle.p3l_skel.specs.Lawful.{kind_of}
use Rattle.p3l_skel.proofs.Depth.{lawful_at}
use Rattle.p3l_skel.proofs.Parts.{row_at}
use Rattle.p3l_code.specs.declared.instr.Code.{Code}
use Rattle.p3l_code.specs.Machine.{exec}
use Rattle.p3l_units.specs.Table.{Served, is_seq_kind, if_seq, code_of, seqs_before, HasWordsOf, leaf, ArePlaced, DoesNode}
use Rattle.p3l_units.specs.laws.Leaf.{leaves_are_runs}

pub there_within : {A : Type 0} (P : A → Type 0) (xs : List A) (i : ℕ) → IsSomeAnd (slice_get xs i) P → i < length xs
there_within P [] i has = absurd has
there_within P (x ∷ xs) zero has = omega arith
there_within P (x ∷ xs) (suc i) has = let h = there_within P xs i has in omega arith

-- `if_seq` returns the given entry, if it returns one
seq_found : {A : Type 0} (P : A → Type 0) (info : Option ModuleInfo) (found : Option A) → IsSomeAnd (if_seq info found) P → if_seq info found ≡ found
seq_found P None found has = absurd has
seq_found {A} P (Some info) found has = by (is_seq_kind info.kind) has
  where
    by : (b : Bool) → IsSomeAnd (cond b found None) P → cond b found None ≡ found
    by true h = refl
    by false h = absurd h

module _ (served : Served) (places : List ℕ) (is : ArePlaced served.tree served.codes places) (k : ℕ) (there : k < length served.tree.nodes) (seq : (node_at served.tree k).form ≡ forms.Seq) where
  pub module_inside : (node_at served.tree k).module < length served.tree.modules
  module_inside =
      there_within (λ (m : ModuleInfo). m.kind ≡ kind_of (node_at served.tree k).form) served.tree.modules (node_at served.tree k).module (lawful_at served.tree is.lawful k there).kind

  has_words : IsSomeAnd (code_of served (node_at served.tree k).module) (HasWordsOf (node_at served.tree k))
  has_words = is.have_codes k no_node there seq

  own_place : code_of served (node_at served.tree k).module ≡ slice_get served.codes (seqs_before served.tree.modules (node_at served.tree k).module)
  unfolding has_words
  own_place = seq_found (HasWordsOf (node_at served.tree k)) (slice_get served.tree.modules (node_at served.tree k).module) (slice_get served.codes (seqs_before served.tree.modules (node_at served.tree k).module)) has_words

  place_is : (place : ℕ) → place ≡ get_or places (node_at served.tree k).module 0 → place ≡ seqs_before served.tree.modules (node_at served.tree k).module
  unfolding module_inside
  place_is place e = e ∙ get_or_from_slice_get places (node_at served.tree k).module (seqs_before served.tree.modules (node_at served.tree k).module) 0 (is.have_places (node_at served.tree k).module module_inside)

  -- a code is at the place of its module
  pub place_inside : (place : ℕ) → place ≡ get_or places (node_at served.tree k).module 0 → place < length served.codes
  unfolding has_words own_place place_is
  place_inside place at =
      subst (λ n. n < length served.codes) (sym (place_is place at)) (there_within (HasWordsOf (node_at served.tree k)) served.codes (seqs_before served.tree.modules (node_at served.tree k).module) (subst (λ o. IsSomeAnd o (HasWordsOf (node_at served.tree k))) own_place has_words))

  -- the code at the place of its module is its own
  pub own_code : (place : ℕ) (code : Code) → place ≡ get_or places (node_at served.tree k).module 0 → code ≡ get_or served.codes place code → code_of served (node_at served.tree k).module ≡ Some code
  unfolding has_words own_place place_is
  own_code place code at found =
      own_place ∙ ap (slice_get served.codes) (sym (place_is place at)) ∙ slice_get_read served.codes (length served.codes) place code refl (place_inside place at) found

  module _ (code : Code) (own : code_of served (node_at served.tree k).module ≡ Some code) where
    takes_ins : code.ins ≡ (node_at served.tree k).ins
    unfolding has_words
    takes_ins = (subst (λ o. IsSomeAnd o (HasWordsOf (node_at served.tree k))) own has_words).takes

    -- its code makes of words what is said of its module
    pub runs_body : (words : List ℤ) → length words ≡ (node_at served.tree k).ins → exec code (node_at served.tree k).module words ≡ leaf served (node_at served.tree k).module words
    unfolding takes_ins
    runs_body words fits = sym (leaves_are_runs served k code words is.have_codes there seq own (fits ∙ sym takes_ins))

    -- a node does what its code does, if its module rescues nothing
    pub does_node : None ≡ rescue_of served.tree (node_at served.tree k).module → DoesNode served k code (node_at served.tree k).module
    unfolding takes_ins runs_body
    does_node none =
        let here = node_at served.tree k in
        record {
          form = seq;
          takes = takes_ins;
          gives = λ words fits.
              runs_body words (fits ∙ takes_ins)
              ∙ (ap (λ number. rescued number here.outs (leaf served here.module words)) none
              ∙ row_at served.tree is.lawful (leaf served) here k forms.Seq words refl there seq);
        }
