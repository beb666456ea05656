-- Which of some checksums are named: the first one that is, and that there is none.
use Rattle.std.{proofs.{Common.{◌≡◌, ◌<◌, ◌≤◌, ◌+◌, ℕ, Bool, false, not, List, [], length, drop, get_or, Option, Some, None, refl, ap, arith}, lemmas.Bool.{cond-false, le-ltb, not_from_true, not-false}, lemmas.Bool.Decides.{Decides-and, Decides-like}, lemmas.List.Sums.{fails_before_first, position_or_len_is}, lemmas.Slice.Eq.{bytes_eq-Decides}}, specs.{Prelude.{nat_lt, is_none, option_map}, List.{position_or_len}, Bool.{Decides}}}
use Rattle.df_format.{specs.{declared.superblock.SuperFields.{SuperFields}, Spelling.{no_checksum}, Super.{AreNone, NamesNone}, SuperRules.{first_named, first_spare, is_zero_check, names_none}}, proofs.CopyParts.{no_place, unplaced}}

-- a checksum that isn't zeros
abbrev named : List ℕ → Bool
named check = not (is_zero_check check)

none_from : (checks : List (List ℕ)) → first_named checks ≡ None → AreNone checks
none_from checks is k d inside =
    let all : length checks ≤ position_or_len named checks = unplaced (position_or_len named checks) (length checks) is in
    let fails : named (get_or checks k d) ≡ false = fails_before_first named checks k d (omega (arith, all, inside)) in
    (bytes_eq-Decides (get_or checks k d) no_checksum).0 (not-false _ fails)

from_none : (checks : List (List ℕ)) → AreNone checks → first_named checks ≡ None
from_none checks none = let least : length checks ≤ length checks = omega arith in let fails = λ (k : ℕ) (inside : k < length checks).
    not_from_true (is_zero_check (get_or checks k [])) ((bytes_eq-Decides (get_or checks k []) no_checksum).1 (none k [] inside)) in
    let all : position_or_len named checks ≡ length checks =
    position_or_len_is named checks (length checks) [] least fails (λ more. absurd (omega arith)) in
    cond-false (nat_lt (position_or_len named checks) (length checks))
    (Some (position_or_len named checks)) None (le-ltb (position_or_len named checks) (length checks) (omega (arith, all)))

pub no_number : (o : Option ℕ) → Decides (is_none o) (o ≡ None)
no_number None = (λ is. refl, λ is. refl)
no_number (Some x) = (λ is. absurd (cc), λ is. absurd (cc))

none_named : (checks : List (List ℕ)) → Decides (is_none (first_named checks)) (AreNone checks)
none_named checks =
    (λ is. none_from checks ((no_number (first_named checks)).0 is), λ none. (no_number (first_named checks)).1 (from_none checks none))

-- no place without a session has a checksum
pub none_spare : (f : SuperFields) → Decides (is_none (first_spare f)) (AreNone (drop f.clients f.reply_checksums))
none_spare f = let behind : List (List ℕ) = drop f.clients f.reply_checksums in (
  λ is. none_from behind (no_place (first_named behind) f.clients ((no_number (first_spare f)).0 is)),
  λ none. (no_number (first_spare f)).1 (ap (λ (o : Option ℕ). option_map (λ i. f.clients + i) o) (from_none behind none)),
)

-- neither the head's prepare nor a reply is named
pub nameless : (f : SuperFields) → Decides (names_none f) (NamesNone f)
nameless f = Decides-like (names_none f) (λ t. record { head = t.0; replies = t.1 }) (λ is.
    (is.head, is.replies)) (Decides-and _ _ (bytes_eq-Decides f.head_checksum no_checksum) (none_named f.reply_checksums))
