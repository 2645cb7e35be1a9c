use Rattle.std.proofs.Common.{◌≡◌, ◌∙◌, rules, ap, ap₂, codes, map, option_map, unwrap_or, List, ℕ, [], Bor}
use Rattle.clap.proofs.WalkLemmas.{first_value-rows, raw_values-rows}
use Rattle.clap.specs.Words.{all_of, first_value, found_of, matched_of, raw_values, rows_of}
use Rattle.command_words.proofs.Lines.{texts_or_none}
use Rattle.command_words.proofs.line.found_line.Goals as goal

pub returns : goal.returns
returns c =
    let f = found_of c.args.matches.now in
    let words : option_map (λ (s : Bor (List (Bor (List ℕ)))). map (λ (w : Bor (List ℕ)). w.now) s.now) c.get_strs.result ≡ option_map raw_values (matched_of f (codes "words")) = search rules in
    let workers : option_map (λ (s : Bor (List ℕ)). s.now) c.get_str.result ≡ first_value f (codes "workers") = search rules in
    let plain : map (λ (w : Bor (List ℕ)). w.now) c.in_ok-from_slice.field-0.items ≡ unwrap_or (all_of (codes "words") (rows_of f)) [] =
    ap (map (λ (w : Bor (List ℕ)). w.now)) (c.in_ok-from_slice.ensures.items ∙ ap (λ (s : Bor (List (Bor (List ℕ)))). s.now) c.unwrap_or-words.ensures)
    ∙ (texts_or_none c.get_strs.result _ (search rules) ∙ ap (λ o. unwrap_or o []) (words ∙ raw_values-rows f (codes "words"))) in
    ap₂ (λ (ps : List (List ℕ)) w. record { plain = ps; workers = w }) plain (workers ∙ first_value-rows f (codes "workers"))
