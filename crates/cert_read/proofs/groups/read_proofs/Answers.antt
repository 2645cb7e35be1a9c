use Rattle.std.proofs.Common.{◌≡◌, ◌++◌, ◌∷◌, [], List, All, drop, sym, subst}
use Rattle.std.specs.List.{flat_map}
use Rattle.std.proofs.lemmas.List.Elements.{All-push}
use Rattle.cert_text.specs.Lines.{which_line, case_lines, proved_lines, IsSpelledProof}
use Rattle.cert_text.specs.declared.certificate.Proved.{Proved}
use Rattle.cert_read.proofs.Takings.{group_taken, proofs_more, no_proof_goes_on}
use Rattle.cert_read.proofs.groups.read_proofs.Goals as goal

pub proofs-preserved : goal.proofs-preserved
proofs-preserved c =
    let p = c.args.program.now in
    let lines = c.args.lines.now in
    let end = c.proofs.end in
    let ps : List Proved = c.proofs.proved.items in
    let next : List Proved = c.push.new.self.items in
    let which = c.in-Some.which in
    let named = c.in-Some.ensures in
    let found = c.in_ok-found.found in
    let are = c.in_ok-found.ensures in
    let one : Proved = record { which = which; derivations = found.derivations } in
    let pushed : next ≡ ps ++ one ∷ [] = c.in_ok-push.ensures.items in
    let spelled : IsSpelledProof p one = record { own = named.0; narrow = named.1; few = are.few; cases = are.spelled } in
    record {
      taken = group_taken lines c.args.from (flat_map (proved_lines p) ps) end c.proofs.invariant.taken (which_line p which) (case_lines 0 found.derivations) (flat_map (proved_lines p) next) found.end named.2 are.taken
          (proofs_more p ps next one pushed);
      spelled = subst (All (IsSpelledProof p)) (sym pushed) (All-push (IsSpelledProof p) ps one c.proofs.invariant.spelled spelled);
      stops = no_proof_goes_on ps next one (drop found.end lines) pushed are.stops;
    }
