-- What is read from a text, and what is written.
use Rattle.std.specs.Prelude.{◌≡◌, ◌≢◌, ℕ, zero, suc, ◌<◌, ◌≤◌, List, [], length, take, Result, Ok, Err, ◌⊎◌}
use Rattle.az_lin.specs.declared.limit.Limit.TheVariants.{File}
use Rattle.az_ast.specs.System.{System}
use Rattle.cert_text.specs.Lines.{lines_of, text_of, IsSpelled}
use Rattle.cert_text.specs.declared.certificate.Certificate.{Certificate}
use Rattle.cert_text.specs.declared.fault.CertFault.{CertFault}
use Rattle.cert_text.specs.declared.fault.CertFault.TheVariants.{BadLine, Limit, Memory}
use Rattle.grammar_rules.specs.Lines.{IsCut}

-- the lines of a certificate
abbrev pub AreLines : System → List (List ℕ) → Type 0
AreLines p lines = (certificate : Certificate) × IsSpelled p certificate × (lines ≡ lines_of p certificate)

-- The first line outside the grammar, counted from 1: the lines before it are those of a certificate, and with it they
-- are not, or it isn't ended, or there is none at all.
pub record IsFirstBadLine (p : System) (text : List ℕ) (number : ℕ) : Type 0 where
  pub before : ℕ
  pub lines : List (List ℕ)
  pub rest : List ℕ
  pub cut : IsCut text lines rest
  pub number_is : number ≡ suc before
  pub front : (before ≡ 0) ⊎ AreLines p (take before lines)
  pub outside : ((before < length lines) × (¬ AreLines p (take (suc before) lines)))
      ⊎ ((before ≡ length lines) × ((rest ≢ []) ⊎ (lines ≡ [])))

abbrev pub Reads : System → List ℕ → Result Certificate CertFault → Type 0
Reads p text (Ok certificate) = IsSpelled p certificate × (text ≡ text_of p certificate)
Reads p text (Err (BadLine number)) = IsFirstBadLine p text number
Reads p text (Err (Limit limit)) = ⊥
Reads p text (Err Memory) = Unit {0}

-- a text of this certificate is read as this one
abbrev pub ReadsOnly : System → List ℕ → Result Certificate CertFault → Type 0
ReadsOnly p text result = (certificate : Certificate) → IsSpelled p certificate → text ≡ text_of p certificate → (result ≡ Ok certificate) ⊎ (result ≡ Err Memory)

-- the most bytes of a file
abbrev pub most_bytes : ℕ
most_bytes = 16777216

abbrev pub Writes : System → Certificate → Result (List ℕ) CertFault → Type 0
Writes p certificate (Ok text) = (text ≡ text_of p certificate) × (length (text_of p certificate) ≤ most_bytes)
Writes p certificate (Err (Limit limit)) = (limit ≡ File) × (most_bytes < length (text_of p certificate))
Writes p certificate (Err (BadLine number)) = ⊥
Writes p certificate (Err Memory) = Unit {0}
