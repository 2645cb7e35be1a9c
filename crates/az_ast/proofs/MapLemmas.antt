-- A `BTreeMap` with numbers as keys, as the finite map of its entries.
use Rattle.std.proofs.Common.{◌≡◌, ℕ, List, [], ◌∷◌, ◌++◌, map, reverse, refl, sym, ap, ◌∙◌, Some, cond}
use Rattle.std.specs.Ordering.{nat_cmp, is_eq}
use Rattle.std.specs.Cmp.{nat_cmp_total, eq_by_cmp_equiv}
use Rattle.std.specs.FinMap.{get, insert, find, from_entries, get-from_entries, get-insert, same_map, nat_cmp-IsAntisymmetric}
use Rattle.std.specs.BTreeMap.{is_at}
use Rattle.std.specs.Map.{lookup}
use Rattle.std.proofs.lemmas.List.{map-append, reverse-append}

module _ {X : Type 0} where
  lookup-find : (q : ℕ) (es : List (ℕ × X)) → lookup (is_at (nat_cmp q)) es ≡ find nat_cmp q es
  lookup-find q [] = refl
  lookup-find q (e ∷ es) = ap (λ r. cond (is_eq (nat_cmp q e.0)) (Some e.1) r) (lookup-find q es)

  -- what a look-up finds
  pub lookup-get : (q : ℕ) (es : List (ℕ × X)) → lookup (is_at (nat_cmp q)) es ≡ get (from_entries {R = nat_cmp} es) q
  lookup-get q es = lookup-find q es ∙ sym (get-from_entries nat_cmp_total es q)

  -- what an insertion leaves
  pub from_entries-insert :
      (es fs : List (ℕ × X)) (k : ℕ) (v : X) →
      ((q : ℕ) → lookup (is_at (nat_cmp q)) fs ≡ cond (is_at (nat_cmp k) q) (Some v) (lookup (is_at (nat_cmp q)) es)) →
      from_entries {R = nat_cmp} fs ≡ insert (from_entries es) k v
  from_entries-insert es fs k v updates =
      same_map nat_cmp_total nat_cmp-IsAntisymmetric _ _ (λ q.
      sym (lookup-get q fs) ∙ updates q
      ∙ (ap (λ r. cond (is_eq (nat_cmp k q)) (Some v) r) (lookup-get q es)
      ∙ (ap (λ b. cond b (Some v) (get (from_entries {R = nat_cmp} es) q)) ((eq_by_cmp_equiv nat_cmp_total).symm k q)
      ∙ sym (get-insert nat_cmp_total (from_entries es) k v q))))

  -- an entry in front of others
  pub insert-front : (es : List (ℕ × X)) (k : ℕ) (v : X) → insert (from_entries {R = nat_cmp} es) k v ≡ from_entries ((k, v) ∷ es)
  insert-front es k v =
      sym (from_entries-insert es ((k, v) ∷ es) k v (λ q. ap (λ b. cond b (Some v) (lookup (is_at (nat_cmp q)) es)) ((eq_by_cmp_equiv nat_cmp_total).symm q k)))

  -- one more entry is put into the map of those before, taken from the last to the first
  pub insert-more :
      {A : Type 0} (shown : A → ℕ × X) (yielded : List A) (x : A) (es fs : List (ℕ × X)) (v : X) →
      from_entries {R = nat_cmp} es ≡ from_entries (reverse (map shown yielded)) → v ≡ (shown x).1 →
      ((q : ℕ) → lookup (is_at (nat_cmp q)) fs ≡ cond (is_at (nat_cmp (shown x).0) q) (Some v) (lookup (is_at (nat_cmp q)) es)) →
      from_entries {R = nat_cmp} fs ≡ from_entries (reverse (map shown (yielded ++ x ∷ [])))
  insert-more shown yielded x es fs v so_far copied updates =
      let k = (shown x).0 in
      let turned : reverse (map shown (yielded ++ x ∷ [])) ≡ shown x ∷ reverse (map shown yielded)
      = ap reverse (map-append shown yielded (x ∷ [])) ∙ reverse-append (map shown yielded) (shown x ∷ []) in
      from_entries-insert es fs k v updates
      ∙ (ap (λ m. insert m k v) so_far
      ∙ (insert-front (reverse (map shown yielded)) k v
      ∙ (ap (λ w. from_entries ((k, w) ∷ reverse (map shown yielded))) copied
      ∙ ap from_entries (sym turned))))
