-- The rules of each kind and of each version: what the tests decide.
use Rattle.std.{proofs.{Common.{◌≡◌, ◌≢◌, ◌↔◌, ◌<◌, ◌≤◌, ◌+◌, ◌^◌, ◌==◌, ◌&&◌, ℕ, Bool, true, false, List, [], refl, cond, arith}, lemmas.Bool.{both_ways, eqb-true, eq-eqb}, lemmas.Bool.Decides.{Decides-and, Decides-or, Decides-eqb, Decides-ltb}, lemmas.Slice.Eq.{bytes_eq-Decides}}, specs.{Prelude.{nat_lt}, Bool.{Decides}, Str.{bytes_eq}}}
use Rattle.df_base.specs.Fields.{check_of}
use Rattle.df_format.{specs.{declared.header.Header.{Header}, declared.kind.Kind.{Kind}, declared.kind.Kind.TheVariants.{Reserved, Prepare, Reply, Block, Trailer}, Spelling.{no_checksum}, Rules.{HasBoot, HasGroup, IsCounter, IsGroup, IsUngrouped, ObeysReserved, ObeysPrepare, ObeysReply, ObeysBlock, ObeysTrailer, ObeysKind, ObeysFirst, ObeysSecond, ObeysVersion}, Reading.{is_counter, is_prepare, is_reply, is_bare, is_reserved, is_block, is_linked, is_trailer, is_of_kind, is_ungrouped, is_grouped, is_first, has_boot, has_group, is_second, has_numbers}}, proofs.Tests.{at_most, same_where, told}}

-- the numbers of a header are in their ranges
pub record AreInRange (h : Header) : Type 0 where
  pub cluster : 0 < h.cluster
  pub size : 256 ≤ h.size
  pub kind : ObeysKind h.kind h
  pub version : ObeysVersion h.kind h

pub same_bytes : (a b : List ℕ) → a ≡ b → bytes_eq a b ≡ true
same_bytes a b is = (bytes_eq-Decides a b).1 is

counter : (n : ℕ) → Decides (is_counter n) (IsCounter n)
counter n = Decides-and _ _ (Decides-ltb 0 n) (at_most n (2 ^ 62))

also : {P Q : Type 0} {x y : Bool} → Decides x P → Decides y Q → Decides (x && y) (P × Q)
also one two = Decides-and _ _ one two

prepare : (h : Header) → Decides (is_prepare h) (ObeysPrepare h)
unfolding is_prepare
prepare h = told _ (also (also (also (also (also (also (same_where h.op 1 h.parent no_checksum) (Decides-ltb 0 h.client)) (counter h.op))
    (counter h.request)) (Decides-ltb h.mark h.op)) (counter h.checkpoint)) (Decides-eqb h.block_kind 0))
    (λ t. assumption) (λ is. assumption)

reply : (h : Header) → Decides (is_reply h) (ObeysReply h)
unfolding is_reply
reply h = told _ (also (also (also (also (also (also (Decides-ltb 0 h.client) (counter h.op)) (counter h.request)) (at_most h.op h.mark))
    (at_most h.mark (2 ^ 62))) (counter h.checkpoint)) (Decides-eqb h.block_kind 0)) (λ t. assumption) (λ is. assumption)

-- a header that names neither a parent nor a client
record IsBare (h : Header) : Type 0 where
  parent : h.parent ≡ no_checksum
  client : h.client ≡ 0
  request : h.request ≡ 0
  mark : h.mark ≡ 0
  checkpoint : h.checkpoint ≡ 0

bare : (h : Header) → Decides (is_bare h) (IsBare h)
unfolding is_bare
bare h = told _ (also (also (also (also (bytes_eq-Decides h.parent no_checksum) (Decides-eqb h.client 0)) (Decides-eqb h.request 0))
    (Decides-eqb h.mark 0)) (Decides-eqb h.checkpoint 0)) (λ t. assumption) (λ is. assumption)

reserved : (h : Header) → Decides (is_reserved h) (ObeysReserved h)
unfolding is_reserved
reserved h = told _ (also (also (also (also (bare h) (bytes_eq-Decides h.checksum_body (check_of []))) (Decides-eqb h.op 0))
    (Decides-eqb h.size 256)) (Decides-eqb h.block_kind 0)) (λ t. assumption) (λ is. assumption)

block : (h : Header) → Decides (is_block h) (ObeysBlock h)
unfolding is_block
block h = told _ (also (also (also (bare h) (Decides-ltb 0 h.op)) (Decides-eqb h.slot 0)) (Decides-ltb 0 h.block_kind))
    (λ t. assumption) (λ is. assumption)

-- the block before a trailer block, by its index
record IsLinked (mark request : ℕ) (parent : List ℕ) : Type 0 where
  first : mark ≡ 0 → parent ≡ no_checksum
  before : (request ≡ 0) ↔ (mark ≡ 0)

linked_by : (mark request : ℕ) (parent : List ℕ) (b : Bool)
    → (mark == 0) ≡ b → Decides (cond b ((request == 0) && bytes_eq parent no_checksum) (nat_lt 0 request)) (IsLinked mark request parent)
linked_by mark request parent true zero = let none = eqb-true mark 0 zero in
    told _ (also (Decides-eqb request 0) (bytes_eq-Decides parent no_checksum)) (λ t.
    record { first = λ _. t.1; before = (λ _. none, λ _. t.0) }) (λ is. (is.before.1 none, is.first none))
linked_by mark request parent false some = let other : mark ≢ 0 = λ none. both_ways _ some (eq-eqb mark 0 none) in
    told _ (Decides-ltb 0 request)
    (λ before. record { first = λ none. absurd (other none); before = (λ none. absurd (omega arith), λ none. absurd (other none)) })
    (λ is. let before : request ≢ 0 = λ none. other (is.before.0 none) in omega arith)

linked : (h : Header) → Decides (is_linked h) (IsLinked h.mark h.request h.parent)
linked h = linked_by h.mark h.request h.parent (h.mark == 0) refl

trailer : (h : Header) → Decides (is_trailer h) (ObeysTrailer h)
unfolding is_trailer
trailer h = told _ (also (also (also (also (also (also (linked h) (Decides-eqb h.client 0)) (Decides-ltb 0 h.op)) (at_most 2 h.checkpoint))
    (at_most h.checkpoint (2 ^ 62))) (Decides-eqb h.slot 0)) (Decides-eqb h.block_kind 0))
    (λ t. let before = t.0.0.0.0.0.0.before in assumption) (λ is. assumption)

of_kind : (kind : Kind) (h : Header) → Decides (is_of_kind kind h) (ObeysKind kind h)
of_kind Reserved h = reserved h
of_kind Prepare h = prepare h
of_kind Reply h = reply h
of_kind Block h = block h
of_kind Trailer h = trailer h

-- ---- the version

ungrouped : (h : Header) → Decides (is_ungrouped h) (IsUngrouped h.group h.group_last)
unfolding is_ungrouped
ungrouped h = told _ (also (Decides-eqb h.group 0) (Decides-eqb h.group_last 0)) (λ t. assumption) (λ is. assumption)

grouped : (h : Header) → Decides (is_grouped h) (IsGroup h.op h.group h.group_last)
unfolding is_grouped
grouped h = told _ (also (also (also (Decides-ltb 0 h.group) (at_most h.group h.op)) (at_most h.op h.group_last))
    (at_most h.group_last (h.group + 7))) (λ t. assumption) (λ is. assumption)

first : (h : Header) → Decides (is_first h) (ObeysFirst h)
unfolding is_first
first h = told _ (also (also (Decides-eqb h.version 1) (Decides-eqb h.boot 0)) (ungrouped h)) (λ t. assumption) (λ is. assumption)

boot : (kind : Kind) (h : Header) → Decides (has_boot kind h) (HasBoot kind h.boot)
boot Reserved h = Decides-eqb h.boot 0
boot _ h = counter h.boot

group : (kind : Kind) (h : Header) → Decides (has_group kind h) (HasGroup kind h.op h.group h.group_last)
group Prepare h = grouped h
group _ h = ungrouped h

second : (kind : Kind) (h : Header) → Decides (is_second kind h) (ObeysSecond kind h)
unfolding is_second
second kind h = told _ (also (also (Decides-eqb h.version 2) (boot kind h)) (group kind h)) (λ t. assumption) (λ is. assumption)

numbers : (h : Header) → Decides (has_numbers h) (AreInRange h)
numbers h = told _ (also (also (also (Decides-ltb 0 h.cluster) (at_most 256 h.size)) (of_kind h.kind h))
    (Decides-or _ _ (first h) (second h.kind h))) (λ t. assumption) (λ is. assumption)

pub in_range : (h : Header) → has_numbers h ≡ true → AreInRange h
in_range h is = (numbers h).0 is

pub passes : (h : Header) → AreInRange h → has_numbers h ≡ true
passes h is = (numbers h).1 is
