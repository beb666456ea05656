-- A superblock can be used exactly where it passes the theory's tests.
use Rattle.std.{proofs.{Common.{inl, inr, ◌≡◌, ◌≢◌, ℕ, zero, suc, ◌<◌, ◌≤◌, ◌+◌, ◌^◌, List, [], ◌∷◌, ◌++◌, length, drop, get_or, Option, Some, None, refl, sym, ◌∙◌, ap, subst, arith}, lemmas.Bool.{cases_eq}, lemmas.List.{append-nil, get_or-drop, get_or-map, length-drop}}, specs.Prelude.{All, map, slice_index}}
use Rattle.df_layout.specs.{Limits.{AreSlots, IsMessageSize, AreClients, IsBlockSize, AreBlocks}, declared.layout.Layout.{Layout}}
use Rattle.df_format.{specs.{declared.superblock.SuperFields.{SuperFields}, Spelling.{IsCheck, no_checksum}, Super.{AreNone}, SuperRules.{IsFirstSuper, IsSecondSuper, IsSuper}, Copies.{Content}}, proofs.Laws.{no_check}}
use Rattle.df_theory.specs.Units
use Rattle.df_theory.specs.{Shape.{Shape}, Trailer.{IsReference}, View.{IsOfVersion, PassesTests}}
use Rattle.df_units.{specs.{Meaning.{answered_of, content_of, layout_of, number_of, offset_list, or_nothing, pin_checksum_of, pin_of, rest_of, unnamed_of}, Format.{shape_as, shape_of}, Superblocks.{AreFieldsOf, ContentHasChecks, PassingIsUsable, UsablePasses}}, proofs.{Numbers.{no_number, one_number}, Versions.{are_zeros_of, by_other, by_second, named_zeros, none_zero, nothing, spare_zero, zeros_are}}}

zeros_behind : (xs : List ℕ) (o : Option ℕ) → ((i : ℕ) → slice_index xs i ≡ 0) → o ≡ None → (i : ℕ) → slice_index (xs ++ offset_list o) i ≡ 0
zeros_behind xs None zeros none i = ap (λ (l : List ℕ). slice_index l i) (append-nil xs) ∙ zeros i
zeros_behind xs (Some n) zeros none i = absurd (cc)

-- what version 1 leaves empty is zeros, and what version 2 does
first_rest : (f : SuperFields) → IsFirstSuper f → f.first_nonzero ≡ None → (i : ℕ) → slice_index (rest_of f) i ≡ 0
first_rest f is none = zeros_behind (unnamed_of f) f.first_nonzero (λ i. ap (λ (l : List ℕ). slice_index l i)
    (by_other f [] (or_nothing mine) (λ second. omega (arith, second, is.version)) ∙ nothing mine (are_zeros_of mine zeros))) none
  where
    mine : List ℕ
    mine = number_of f.head_checksum ∷ map number_of f.reply_checksums

    zeros : (i : ℕ) → slice_index (number_of f.head_checksum ∷ map number_of f.reply_checksums) i ≡ 0
    zeros zero = ap number_of is.named.head ∙ no_number
    zeros (suc i) = none_zero f.reply_checksums is.named.replies i

second_rest : (f : SuperFields) → f.version ≡ 2 → f.first_nonzero ≡ None → (i : ℕ) → slice_index (rest_of f) i ≡ 0
second_rest f is none = zeros_behind (unnamed_of f) f.first_nonzero (λ i. ap (λ (l : List ℕ).
    slice_index l i) (by_second f [] (or_nothing (number_of f.head_checksum ∷ map number_of f.reply_checksums)) is)) none

-- what the tests ask of a version alone
record PassesVersion (sh : Shape) (c : Units.Content) : Type 0 where
  boot : c.boot ≤ 2 ^ 62
  pin : (c.op ≤ c.pin) × (c.pin ≤ c.head)
  pin_checksum : c.pin ≡ c.op → c.pin_checksum ≡ c.op_checksum
  answered : c.answered ≤ c.replies + 1
  spare : (k : ℕ) → sh.layout.clients ≤ k → slice_index c.reply_checksums k ≡ 0
  of : IsOfVersion c
  rest : (i : ℕ) → slice_index c.rest i ≡ 0

first_passes : (sh : Shape) (c : Content)
    → c.fields.op ≤ c.fields.head → c.fields.first_nonzero ≡ None → IsFirstSuper c.fields → PassesVersion sh (content_of c)
first_passes sh c order none is = let f = c.fields in let other : f.version ≢ 2 = λ second. omega (arith, second, is.version) in
    let pin : pin_of f ≡ f.op = by_other f f.head f.op other in
    let checksum : pin_checksum_of f ≡ f.op_checksum = by_other f f.head_checksum f.op_checksum other in
    let answered : answered_of f ≡ 0 = by_other f (f.replies + 1) 0 other in record {
      boot = omega (arith, is.boot);
      pin = (omega (arith, pin), omega (arith, pin, order));
      pin_checksum = λ level. ap number_of checksum;
      answered = omega (arith, answered);
      spare = λ k low. ap (λ (l : List ℕ). slice_index l k) (by_other f (map number_of f.reply_checksums) [] other);
      of = record { one = λ version. (is.boot, pin, ap number_of checksum, answered); two = λ version. absurd (other version) };
      rest = first_rest f is none;
    }

second_passes : (sh : Shape) (c : Content) → c.fields.op ≤ c.fields.head
    → c.fields.first_nonzero ≡ None → c.fields.clients ≡ sh.layout.clients → IsSecondSuper c.fields → PassesVersion sh (content_of c)
second_passes sh c order none clients is = let f = c.fields in let pin : pin_of f ≡ f.head = by_second f f.head f.op is.version in
    let checksum : pin_checksum_of f ≡ f.head_checksum = by_second f f.head_checksum f.op_checksum is.version in
    let answered : answered_of f ≡ f.replies + 1 = by_second f (f.replies + 1) 0 is.version in record {
      boot = is.boot;
      pin = (omega (arith, pin, order), omega (arith, pin));
      pin_checksum = λ level. ap number_of (checksum ∙ is.head_is_op (sym pin ∙ level));
      answered = omega (arith, answered);
      spare = λ k low. ap (λ (l : List ℕ). slice_index l k) (by_second f (map number_of f.reply_checksums) [] is.version)
          ∙ spare_zero f.reply_checksums f.clients k is.spare (omega (arith, clients, low));
      of = record { one = λ version. absurd (omega (arith, version, is.version)); two = λ version. (pin, answered) };
      rest = second_rest f is.version none;
    }

pub usable_passes : UsablePasses
usable_passes layout cluster named parse c of is = let sh : Shape = shape_as c.fields.version layout cluster named parse in
    let version : PassesVersion sh (content_of c) =
    elim is.version [ inl first ↦ first_passes sh c is.head.0 is.zero first | inr second ↦ second_passes sh c is.head.0 is.zero of.clients second ] in (
      record {
        version = refl;
        layout = λ i. record { slots = of.slots i; message_size = of.message_size i; clients = of.clients i; block_size = of.block_size i; blocks = of.blocks i };
        cluster = of.cluster_is;
        sequence = is.sequence;
        boot = version.boot;
        op_checksum = λ none. ap number_of (is.op_checksum none) ∙ no_number;
        head = (is.head.0, omega (arith, is.head.1, of.slots), is.head.2);
        replies = is.replies;
        pin = version.pin;
        pin_checksum = version.pin_checksum;
        answered = version.answered;
        spare = version.spare;
        of = version.of;
        rest = version.rest;
      },
      record {
        address = omega (arith, is.trailer.0, of.blocks);
        some = λ some. omega (arith, is.trailer.1 (λ none. omega arith));
        none = λ none. (ap number_of (is.trailer_checksum none) ∙ no_number, is.no_trailer none);
        size = λ some. let size = is.trailer_size (λ none. omega arith) in (size.0, omega (arith, size.1, of.clients, of.blocks));
      },
    )

-- of version 2, as the shape of such a file has it
pub second_usable_passes : (layout : Layout) (cluster : ℕ) (named : 0 < cluster) (parse : ℕ → List ℕ → Option Units.Parts) (c : Content)
    → AreFieldsOf layout cluster c.fields → c.fields.version ≡ 2 → IsSuper c.fields
    → PassesTests (shape_of layout cluster named parse) (content_of c) × IsReference (layout_of layout) (content_of c)
second_usable_passes layout cluster named parse c of second is = let both = usable_passes layout cluster named parse c of is in
    (subst (λ (version : ℕ). PassesTests (shape_as version layout cluster named parse) (content_of c)) second both.0, both.1)

zero_number : (a : List ℕ) → IsCheck a → number_of a ≡ 0 → a ≡ no_checksum
zero_number a is none = one_number a no_checksum is no_check (none ∙ sym no_number)

-- ---- and back

-- what is after some numbers that are zeros is none
pub nothing_else : (xs : List ℕ) (o : Option ℕ) → ((i : ℕ) → slice_index (xs ++ offset_list o) i ≡ 0) → o ≡ None
nothing_else xs None zeros = refl
nothing_else [] (Some n) zeros = absurd (let one : suc n ≡ 0 = zeros 0 in omega arith)
nothing_else (x ∷ xs) (Some n) zeros = nothing_else xs (Some n) (λ i. zeros (suc i))

-- and where that and these numbers are zeros, nothing is there
pub no_rest : (f : SuperFields) → ((i : ℕ) → slice_index (rest_of f) i ≡ 0) → rest_of f ≡ []
no_rest f zeros = let mine : List ℕ = number_of f.head_checksum ∷ map number_of f.reply_checksums in
    let none : f.first_nonzero ≡ None = nothing_else (unnamed_of f) f.first_nonzero zeros in
    let unnamed : unnamed_of f ≡ [] = elim (cases_eq f.version 2) [
      | inl second ↦ by_second f [] (or_nothing mine) second
      | inr other ↦ let is : unnamed_of f ≡ or_nothing mine = by_other f [] (or_nothing mine) other in
          is ∙ nothing mine (named_zeros mine (offset_list f.first_nonzero) (λ i.
          ap (λ (l : List ℕ). slice_index (l ++ offset_list f.first_nonzero) i) (sym is) ∙ zeros i))
    ] in λ i. unnamed i ++ offset_list (none i)

-- checksums whose numbers are zeros are none
none_from : (checks : List (List ℕ))
    → All IsCheck checks → ((k : ℕ) → k < length checks → slice_index (map number_of checks) k ≡ 0) → AreNone checks
none_from checks each zeros k past inside =
    zero_number (get_or checks k past) (each k past inside) (sym (get_or-map number_of checks k past 0 inside) ∙ zeros k inside)

module _ (c : Content) (checks : ContentHasChecks c) where
  abbrev f : SuperFields
  f = c.fields

  first_from : f.version ≡ 1 → IsOfVersion (content_of c) → ((i : ℕ) → slice_index (rest_of f) i ≡ 0) → IsFirstSuper f
  first_from first of rest = let mine : List ℕ = number_of f.head_checksum ∷ map number_of f.reply_checksums in
      let same : rest_of f ≡ or_nothing mine ++ offset_list f.first_nonzero =
      ap (λ (l : List ℕ). l ++ offset_list f.first_nonzero) (by_other f [] (or_nothing mine) (λ second. omega (arith, second, first))) in
      let all : (i : ℕ) → slice_index mine i ≡ 0 =
      zeros_are mine (named_zeros mine (offset_list f.first_nonzero) (λ i. sym (ap (λ (l : List ℕ). slice_index l i) same) ∙ rest i)) in
      record {
        version = first;
        boot = (of.one first).0;
        named = record {
          head = zero_number f.head_checksum checks.head_checksum (all 0);
          replies = none_from f.reply_checksums checks.reply_checksums.each (λ k inside. all (suc k));
        };
      }

  second_from : (sh : Shape) → f.version ≡ 2 → f.clients ≡ sh.layout.clients → PassesTests sh (content_of c) → IsSecondSuper f
  second_from sh second clients tests = let pin : pin_of f ≡ f.head = by_second f f.head f.op second in
      let checksum : pin_checksum_of f ≡ f.head_checksum = by_second f f.head_checksum f.op_checksum second in
      let sums = by_second f (map number_of f.reply_checksums) [] second in let level : f.head ≡ f.op → f.head_checksum ≡ f.op_checksum =
      λ same. one_number f.head_checksum
      f.op_checksum checks.head_checksum checks.op_checksum (ap number_of (sym checksum) ∙ tests.pin_checksum (pin ∙ same)) in record {
        version = second;
        boot = tests.boot;
        no_head = λ none. let no_op : f.op ≡ 0 = omega (arith, none, tests.head.0) in
            level (none ∙ sym no_op) ∙ zero_number f.op_checksum checks.op_checksum (tests.op_checksum no_op);
        head_is_op = level;
        spare = spare_from (λ k low. sym (ap (λ (l : List ℕ). slice_index l k) sums) ∙ tests.spare k (omega (arith, clients, low)));
      }
    where
      spare_from : ((k : ℕ) → f.clients ≤ k → slice_index (map number_of f.reply_checksums) k ≡ 0) → AreNone (drop f.clients f.reply_checksums)
      spare_from zeros k past inside =
          let there : f.clients + k < length f.reply_checksums = omega (arith, inside, length-drop f.clients f.reply_checksums) in
          get_or-drop f.clients f.reply_checksums k past
          ∙ zero_number (get_or f.reply_checksums (f.clients + k) past) (checks.reply_checksums.each (f.clients + k) past there)
          (sym (get_or-map number_of f.reply_checksums (f.clients + k) past 0 there) ∙ zeros (f.clients + k) (omega arith))

pub passing_is_usable : PassingIsUsable
passing_is_usable version layout cluster named parse c known checks tests reference = let f = c.fields in
    let sh : Shape = shape_as version layout cluster named parse in
    let slots : f.slots ≡ layout.slots = ap (λ (l : Units.Layout). l.slots) tests.layout in
    let message_size : f.message_size ≡ layout.message_size = ap (λ (l : Units.Layout). l.message_size) tests.layout in
    let clients : f.clients ≡ layout.clients = ap (λ (l : Units.Layout). l.clients) tests.layout in
    let block_size : f.block_size ≡ layout.block_size = ap (λ (l : Units.Layout). l.block_size) tests.layout in
    let blocks : f.blocks ≡ layout.blocks = ap (λ (l : Units.Layout). l.blocks) tests.layout in (
      record { slots = slots; message_size = message_size; clients = clients; block_size = block_size; blocks = blocks; cluster_is = tests.cluster },
      record {
        version = elim known [
          | inl first ↦ inl (first_from c checks (tests.version ∙ first) tests.of tests.rest)
          | inr second ↦ inr (second_from c checks sh (tests.version ∙ second) clients tests)
        ];
        layout = record {
          slots_within = subst AreSlots (sym slots) layout.slots_within;
          message_size_within = subst IsMessageSize (sym message_size) layout.message_size_within;
          clients_within = subst AreClients (sym clients) layout.clients_within;
          block_size_within = subst IsBlockSize (sym block_size) layout.block_size_within;
          blocks_within = subst AreBlocks (sym blocks) layout.blocks_within;
        };
        cluster = omega (arith, tests.cluster, named);
        sequence = tests.sequence;
        op = omega (arith, tests.head.0, tests.head.2);
        op_checksum = λ none. zero_number f.op_checksum checks.op_checksum (tests.op_checksum none);
        head = (tests.head.0, omega (arith, tests.head.1, slots), tests.head.2);
        replies = tests.replies;
        trailer = (omega (arith, reference.address, blocks), λ some none. absurd (omega (arith, reference.some (above f.op some), none)));
        trailer_checksum = λ none. zero_number f.trailer_checksum checks.trailer_checksum (reference.none none).0;
        no_trailer = λ none. (reference.none none).1;
        trailer_size = λ some. let size = reference.size (above f.trailer_address some) in (size.0, omega (arith, size.1, clients, blocks));
        zero = nothing_else (unnamed_of f) f.first_nonzero tests.rest;
      },
    )
  where
    above : (n : ℕ) → (n ≡ 0 → ⊥) → 0 < n
    above n some = omega arith
