-- What may be stored in the cell of an output's instance is before it, under a certified mapping.
use Rattle.std.proofs.Common.{◌≡◌, ◌⊎◌, inl, inr, ⊎_elim, ℕ, ◌+◌, ◌<◌, List, [], ◌++◌, length, take, drop, true, sym, ap, subst, ◌∙◌, arith, length-append, append_assoc}
use Rattle.std.specs.Prelude.{ℤ, Contains}
use Rattle.std.specs.List.{range_with_len}
use Rattle.std.specs.Option.{option_map_or}
use Rattle.std.proofs.Math.Seq.{take-append_seam, drop-append_seam}
use Rattle.std.proofs.lemmas.List.{append_cancel_left}
use Rattle.std.proofs.lemmas.List.Elements.{All-contains}
use Rattle.std.proofs.lemmas.Option.{slice_get_within}
use Rattle.az_lin.specs.Affine.{HoldsSome}
use Rattle.az_ast.specs.Shapes.{of_variable}
use Rattle.az_ast.specs.System.{System}
use Rattle.az_ast.specs.declared.program.Variable.{Variable}
use Rattle.execution.specs.Setting.{Setting, InstanceBefore, IsOutputInstance}
use Rattle.execution.specs.declared.instance.Instance.{Instance}
use Rattle.execution.proofs.Lists.{same_or_other}
use Rattle.plan_promise.specs.Promise.{IsCertifiedSetting}
use Rattle.target_map.specs.Lifetime.{IsOutputLost}
use Rattle.target_map.specs.Promise.{Never, IsOutputKept}
use Rattle.target_map.specs.Storage.{MayShare, shares_space, writers_of}
use Rattle.target_map.specs.Times.{domain_of, indices_of, storage_of, cell_at, is_output, outputs_of, IsBefore}
use Rattle.target_map.proofs.Decisions.{same_or_not}
use Rattle.tile_waves.specs.Waves.{IsInstance}
use Rattle.certified_plans.proofs.Instances.{instance, defined, full}
use Rattle.certified_plans.proofs.ListLemmas.{passed-in, below-in}
use Rattle.certified_plans.proofs.Orders.{decided}

module _ (g : Setting) (is : IsCertifiedSetting g) (u : Instance) (one : IsInstance g.program g.params u) (out : IsOutputInstance g u) (w : Instance) (two : IsInstance g.program g.params w)
    (space : shares_space g.mapping u.variable w.variable ≡ true)
    (cell : MayShare (storage_of g.mapping u.variable).factors (cell_at g.mapping w.variable (g.params ++ w.point)) (cell_at g.mapping u.variable (g.params ++ u.point))) where
  abbrev p : System
  p = g.program

  abbrev count : ℕ
  count = length g.program.params

  declared_within : (v : Instance) → IsInstance g.program g.params v → v.variable < length g.program.variables
  declared_within v is_one = let d = defined g is v is_one in slice_get_within g.program.variables v.variable d.variable d.declared

  output : Contains (outputs_of p) u.variable
  output = passed-in (of_variable p.variables (λ (v : Variable). is_output v.role)) (range_with_len 0 (length p.variables)) u.variable (below-in (length p.variables) u.variable (declared_within u one)) out

  writer : Contains (writers_of p g.mapping u.variable) w.variable
  writer = passed-in (shares_space g.mapping u.variable) (range_with_len 0 (length p.variables)) w.variable (below-in (length p.variables) w.variable (declared_within w two)) space

  never : Never ((domain_of p u.variable).width + indices_of p w.variable) (IsOutputLost p g.mapping u.variable w.variable)
  never =
      All-contains (λ y. Never ((domain_of p u.variable).width + indices_of p y) (IsOutputLost p g.mapping u.variable y)) (writers_of p g.mapping u.variable) w.variable
      (All-contains (IsOutputKept p g.mapping) (outputs_of p) u.variable is.map.outputs output) writer

  abbrev z : List ℤ
  z = g.params ++ u.point

  abbrev joined : List ℤ
  joined = (g.params ++ u.point) ++ w.point

  width_is : (domain_of p u.variable).width ≡ length z
  width_is =
      let d = defined g is u one in
      ap (λ o. (option_map_or (λ (v : Variable). v.domain) o (record { width = 0; disjuncts = [] })).width) d.declared ∙ sym (full g is u d)

  own : take (domain_of p u.variable).width joined ≡ z
  own = ap (λ n. take n joined) width_is ∙ take-append_seam z w.point

  back : drop (domain_of p u.variable).width joined ≡ w.point
  back = ap (λ n. drop n joined) width_is ∙ drop-append_seam z w.point

  front : take count joined ≡ g.params
  front = ap (take count) (append_assoc g.params u.point w.point) ∙ (ap (λ n. take n (g.params ++ (u.point ++ w.point))) (sym is.count) ∙ take-append_seam g.params (u.point ++ w.point))

  lost : (u.variable ≡ w.variable → u.point ≡ w.point → ⊥) → (InstanceBefore g w u → ⊥) → ⊥
  lost other late =
      never joined (omega (arith, length-append z w.point, width_is, member))
      (record {
        parameters = subst (λ q. HoldsSome p.pdom q) (sym (ap (λ n. take n joined) is.program.placed.parameters ∙ front)) is.inside;
        output = subst (λ q. HoldsSome (domain_of p u.variable) q) (sym own) one.point.member.1;
        over = record {
          instance = subst (λ q. HoldsSome (domain_of p w.variable) q) (sym writer_is) two.point.member.1;
          same_cell = subst (λ q. MayShare (storage_of g.mapping u.variable).factors (cell_at g.mapping w.variable q) (cell_at g.mapping u.variable (take (domain_of p u.variable).width joined))) (sym writer_is)
              (subst (λ q. MayShare (storage_of g.mapping u.variable).factors (cell_at g.mapping w.variable (g.params ++ w.point)) (cell_at g.mapping u.variable q)) (sym own) cell);
          other = λ same points. other (sym same) (append_cancel_left g.params u.point w.point (sym own ∙ (sym points ∙ writer_is)));
          not_before = λ before. late (subst (λ q. IsBefore g.mapping w.variable (g.params ++ w.point) u.variable q) own (subst (λ q. IsBefore g.mapping w.variable q u.variable (take (domain_of p u.variable).width joined)) writer_is before));
        };
      })
    where
      member : length w.point ≡ indices_of p w.variable
      member = two.point.member.0

      writer_is : take count joined ++ drop (domain_of p u.variable).width joined ≡ g.params ++ w.point
      writer_is i = front i ++ back i

  pub output-safe : (w ≡ u) ⊎ InstanceBefore g w u
  output-safe = ⊎_elim (λ before. inr before) (λ late. inl (same_one late)) (decided g is w u)
    where
      same_one : (InstanceBefore g w u → ⊥) → w ≡ u
      same_one late = ⊎_elim
          (λ variable. ⊎_elim (λ point. (λ i. instance (sym variable i) (sym point i))) (λ apart. absurd (lost (λ e points. apart points) late)) (same_or_not u.point w.point))
          (λ apart. absurd (lost (λ e points. apart e) late)) (same_or_other u.variable w.variable)
