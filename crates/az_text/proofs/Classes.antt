-- The classes of bytes: which exclude each other, and that their bytes are ASCII.
use Rattle.std.proofs.Common.{◌≡◌, ℕ, ◌<◌, Bool, true, List, [], ◌∷◌, take, arith}
use Rattle.std.proofs.lemmas.Bool.Decides.{nat_tests}
use Rattle.std.proofs.lemmas.Str.Ascii.{IsAscii-nil, IsAscii-cons}
use Rattle.std.specs.List.{prefix_len}
use Rattle.std.specs.Str.{IsAscii}
use Rattle.az_text.specs.Tokens.{is_word_byte, is_inner, AllAre}
use Rattle.az_text.proofs.Runs.{run_passes}

pub word_byte_ascii : (b : ℕ) → is_word_byte b ≡ true → b < 128
word_byte_ascii b h = grind (arith, nat_tests)

pub inner_ascii : (b : ℕ) → is_inner b ≡ true → b < 128
inner_ascii b h = grind (arith, nat_tests)

IsAscii-from_test : (p : ℕ → Bool) → ((b : ℕ) → p b ≡ true → b < 128) → (bytes : List ℕ) → AllAre p bytes → IsAscii bytes
IsAscii-from_test p ascii [] passes = IsAscii-nil
IsAscii-from_test p ascii (b ∷ bytes) passes = IsAscii-cons b bytes (ascii b passes.0) (IsAscii-from_test p ascii bytes passes.1)

pub IsAscii-word : (text : List ℕ) → IsAscii (take (prefix_len is_word_byte text) text)
IsAscii-word text = IsAscii-from_test is_word_byte word_byte_ascii _ (run_passes is_word_byte text)

pub IsAscii-inner : (text : List ℕ) → IsAscii (take (prefix_len is_inner text) text)
IsAscii-inner text = IsAscii-from_test is_inner inner_ascii _ (run_passes is_inner text)
