-- The choice among the copies is the theory's: contents are told apart by what the theory sees of them.
use Rattle.std.{proofs.{Common.{inl, inr, ◌≡◌, ◌≢◌, ◌*◌, ℕ, suc, ◌+◌, ◌≤◌, List, [], ◌∷◌, ◌++◌, length, take, drop, Option, Some, None, refl, sym, ◌∙◌, ap, subst, arith}, lemmas.Bool.{cases_eq}, lemmas.List.{length-drop, length-map, length-take-le}, lemmas.Option.{same_Some}}, specs.Prelude.{map, slice_index}}
use Rattle.df_base.{specs.Image.{Image, IsImage, IsSector}, proofs.Laws.{AreBytes-take, AreBytes-drop, same_front}}
use Rattle.{df_layout.specs.declared.layout.Layout.{Layout}, df_theory.specs.Units.{CopyUnit}}
use Rattle.df_format.{specs.{declared.superblock.SuperCopy.{SuperCopy}, Spelling.{IsCheck}, Copies.{Content, content_at, content_in_copy as content_of_copy, copy_at, copy_in, if_here, super_fields_of}}, proofs.Laws.{are_checks, is_here, length-checks_at, read_as}}
use Rattle.df_quorum.specs.Quorum
use Rattle.df_theory.specs.Units
use Rattle.df_theory.specs.Copies
use Rattle.df_units.{specs.{Meaning.{content_of, number_of, offset_list, or_nothing, rest_of}, Bytes.{copy_unit, unit_at}, Superblocks.{ChoiceIsChosen, ChosenIsChoice, ContentHasChecks, ShownHasChecks, SplitIsSplit}}, proofs.{Numbers.{one_number}, Versions.{by_other, by_second, checks_same, named_or_nothing}}}

-- ---- contents

offset_is : (o p : Option ℕ) → offset_list o ≡ offset_list p → o ≡ p
offset_is None None same = refl
offset_is None (Some n) same = absurd (cc)
offset_is (Some n) None same = absurd (cc)
offset_is (Some n) (Some m) same = let both : suc n ≡ suc m = cc in let inner : n ≡ m = omega arith in ap Some inner

few : (o : Option ℕ) → length (offset_list o) ≤ 1
few None = omega arith
few (Some n) = omega arith

-- what version 2 names, or leaves empty in another version
named_same : (c d : Content) → ContentHasChecks c → ContentHasChecks d → content_of c ≡ content_of d → (c.fields.head_checksum
    ≡ d.fields.head_checksum) × (c.fields.reply_checksums ≡ d.fields.reply_checksums) × (c.fields.first_nonzero ≡ d.fields.first_nonzero)
named_same c d one two same = let f = c.fields in let g = d.fields in
    let version : f.version ≡ g.version = ap (λ (e : Units.Content). e.version) same in
    let rest : rest_of f ≡ rest_of g = ap (λ (e : Units.Content). e.rest) same in
    let size : length f.reply_checksums ≡ length g.reply_checksums = one.reply_checksums.size ∙ sym two.reply_checksums.size in
    elim (cases_eq f.version 2) [
      | inl second ↦ let other : g.version ≡ 2 = sym version ∙ second in let head : number_of f.head_checksum ≡ number_of g.head_checksum =
          ap number_of (sym (by_second f f.head_checksum f.op_checksum second))
          ∙ ap (λ (e : Units.Content). e.pin_checksum) same ∙ ap number_of (by_second g g.head_checksum g.op_checksum other) in
          let sums : map number_of f.reply_checksums ≡ map number_of g.reply_checksums =
          sym (by_second f (map number_of f.reply_checksums) [] second)
          ∙ ap (λ (e : Units.Content). e.reply_checksums) same ∙ by_second g (map number_of g.reply_checksums) [] other in
          let offsets : offset_list f.first_nonzero ≡ offset_list g.first_nonzero =
          ap (λ (l : List ℕ). l ++ offset_list f.first_nonzero)
          (sym (by_second f [] (or_nothing (number_of f.head_checksum ∷ map number_of f.reply_checksums)) second)) ∙ rest
          ∙ ap (λ (l : List ℕ). l ++ offset_list g.first_nonzero)
          (by_second g [] (or_nothing (number_of g.head_checksum ∷ map number_of g.reply_checksums)) other) in (
            one_number f.head_checksum g.head_checksum one.head_checksum two.head_checksum head,
            checks_same f.reply_checksums g.reply_checksums one.reply_checksums.each two.reply_checksums.each size sums,
            offset_is f.first_nonzero g.first_nonzero offsets,
          )
      | inr differs ↦ let other : g.version ≢ 2 = λ second. differs (version ∙ second) in
          let mine : List ℕ = number_of f.head_checksum ∷ map number_of f.reply_checksums in
          let its : List ℕ = number_of g.head_checksum ∷ map number_of g.reply_checksums in
          let all : or_nothing mine ++ offset_list f.first_nonzero ≡ or_nothing its ++ offset_list g.first_nonzero =
          ap (λ (l : List ℕ). l ++ offset_list f.first_nonzero) (sym (by_other f [] (or_nothing mine) differs))
          ∙ rest ∙ ap (λ (l : List ℕ). l ++ offset_list g.first_nonzero) (by_other g [] (or_nothing its) other) in
          let many : length (map number_of f.reply_checksums) ≡ 64 = length-map f.reply_checksums number_of ∙ one.reply_checksums.size in
          let also : length (map number_of g.reply_checksums) ≡ 64 = length-map g.reply_checksums number_of ∙ two.reply_checksums.size in
          let both = named_or_nothing mine its (offset_list f.first_nonzero) (offset_list g.first_nonzero) (omega (arith, many, also))
          (omega (arith, also, few g.first_nonzero, few f.first_nonzero)) (omega (arith, many, few g.first_nonzero)) all in
          let parts = same_front (number_of f.head_checksum
          ∷ []) (number_of g.head_checksum ∷ []) (map number_of f.reply_checksums) (map number_of g.reply_checksums) refl both.0 in (
            one_number f.head_checksum g.head_checksum one.head_checksum two.head_checksum (ap (λ (l : List ℕ). slice_index l 0) parts.0),
            checks_same f.reply_checksums g.reply_checksums one.reply_checksums.each two.reply_checksums.each size parts.1,
            offset_is f.first_nonzero g.first_nonzero both.1,
          )
    ]

pub one_content : (c d : Content) → ContentHasChecks c → ContentHasChecks d → content_of c ≡ content_of d → c ≡ d
one_content c d one two same =
    let checksum = one_number c.checksum d.checksum one.checksum two.checksum (ap (λ (e : Units.Content). e.checksum) same) in
    let op_checksum =
    one_number c.fields.op_checksum d.fields.op_checksum one.op_checksum two.op_checksum (ap (λ (e : Units.Content). e.op_checksum) same) in
    let trailer_checksum = one_number c.fields.trailer_checksum
    d.fields.trailer_checksum one.trailer_checksum two.trailer_checksum (ap (λ (e : Units.Content). e.trailer_checksum) same) in
    let named = named_same c d one two same in λ i. record {
      checksum = checksum i;
      fields = record {
        version = (same i).version;
        slots = (same i).layout.slots;
        message_size = (same i).layout.message_size;
        clients = (same i).layout.clients;
        block_size = (same i).layout.block_size;
        blocks = (same i).layout.blocks;
        cluster = (same i).cluster;
        sequence = (same i).sequence;
        op = (same i).op;
        op_checksum = op_checksum i;
        head = (same i).head;
        replies = (same i).replies;
        trailer_address = (same i).trailer;
        trailer_checksum = trailer_checksum i;
        trailer_size = (same i).trailer_size;
        boot = (same i).boot;
        head_checksum = named.0 i;
        reply_checksums = named.1 i;
        first_nonzero = named.2 i;
      };
    }

-- sixteen bytes of a sector
check_in : (bytes : List ℕ) (at : ℕ) → IsSector bytes → at + 16 ≤ 4096 → IsCheck (take 16 (drop at bytes))
check_in bytes at sector fits = record {
  size = length-take-le 16 (drop at bytes) (omega (arith, length-drop at bytes, sector.size, fits));
  each = AreBytes-take 16 (drop at bytes) (AreBytes-drop at bytes sector.each);
}

read_checks : (bytes : List ℕ) → IsSector bytes → ContentHasChecks (record { checksum = take 16 bytes; fields = super_fields_of bytes })
unfolding super_fields_of
read_checks bytes sector = record { checksum = check_in bytes 0 sector (omega arith); op_checksum = check_in bytes 112 sector (omega arith); trailer_checksum = check_in bytes 128 sector (omega arith); head_checksum = check_in bytes 160 sector (omega arith); reply_checksums = record { size = length-checks_at 64 192 bytes; each = are_checks 64 192 bytes sector.each (omega (arith, sector.size)) } }

content_parts : (o : Option SuperCopy) (c : Content)
    → content_of_copy o ≡ Some c → (copy : SuperCopy) × (o ≡ Some copy) × (record { checksum = copy.checksum; fields = copy.fields } ≡ c)
content_parts None c is = absurd (cc)
content_parts (Some copy) c is = (copy, refl, same_Some _ _ is)

pub shown_checks : ShownHasChecks
unfolding copy_at
shown_checks image n c whole is = let parts = content_parts (if_here n (copy_in (image n))) c is in
    let here = is_here n (copy_in (image n)) parts.0 parts.1 in let read = read_as (image n) parts.0 here.0 in
    subst ContentHasChecks (ap (λ (copy : SuperCopy). let e : Content = record { checksum = copy.checksum; fields = copy.fields } in e)
    read.is ∙ parts.2) (read_checks (image n) (whole.sectors n))

-- ---- copies

pub copy_parts : (o : Option Content) (d : Units.Content) → copy_unit o ≡ Some (CopyUnit d) → (c : Content) × (o ≡ Some c) × (content_of c ≡ d)
copy_parts None d is = absurd (cc)
copy_parts (Some c) d is = (c, refl, cc)

module _ (layout : Layout) (cluster : ℕ) (image : Image) (whole : IsImage image) where
  -- two copies that agree in the theory agree
  agree_back : (d : Units.Content)
      → Copies.Agree (unit_at layout cluster image) d → (c : Content) × (content_of c ≡ d) × Quorum.CopiesAgree (content_at image) c
  agree_back d agreed = let one = copy_parts (content_at image agreed.first) d agreed.at_first in
      let two = copy_parts (content_at image agreed.second) d agreed.at_second in let same : two.0 ≡ one.0 = one_content two.0
      one.0 (shown_checks image agreed.second two.0 whole two.1) (shown_checks image agreed.first one.0 whole one.1) (two.2 ∙ sym one.2) in
      (one.0, one.2, record { first = agreed.first; second = agreed.second; apart = agreed.apart; inside = agreed.inside; at_first = one.1; at_second = two.1 ∙ ap Some same })

  agree_there : (c : Content) → Quorum.CopiesAgree (content_at image) c → Copies.Agree (unit_at layout cluster image) (content_of c)
  agree_there c agreed = record { first = agreed.first; second = agreed.second; apart = agreed.apart; inside = agreed.inside; at_first = ap copy_unit agreed.at_first; at_second = ap copy_unit agreed.at_second }

  rank_back : (c : Content) (d : Units.Content)
      → content_of c ≡ d → 18446744073709551616 * c.fields.sequence + c.fields.boot ≡ Copies.rank_of d
  rank_back c d same = ap Copies.rank_of same

  chosen_there : (c : Content) → Quorum.IsChosenContent (content_at image) c → Copies.IsChosen (unit_at layout cluster image) (content_of c)
  chosen_there c chosen = record {
    agreed = agree_there c chosen.agreed;
    greatest = λ d agreed. let back = agree_back d agreed in omega (arith, chosen.greatest back.0 back.2, rank_back back.0 d back.1);
    lowest = λ d agreed rank n small shown. let back = agree_back d agreed in let here = copy_parts (content_at image n) d shown in
        let same : here.0 ≡ back.0 =
        one_content here.0 back.0
        (shown_checks image n here.0 whole here.1) (shown_checks image back.2.first back.0 whole back.2.at_first) (here.2 ∙ sym back.1) in
        let found = chosen.lowest back.0 back.2 (omega (arith, rank_back back.0 d back.1, rank)) n small (here.1 ∙ ap Some same) in
        (found.0, found.1, ap copy_unit found.2);
  }

  chosen_back : (d : Units.Content)
      → Copies.IsChosen (unit_at layout cluster image) d → (c : Content) × (content_of c ≡ d) × Quorum.IsChosenContent (content_at image) c
  chosen_back d chosen = let back = agree_back d chosen.agreed in (
    back.0,
    back.1,
    record {
      agreed = back.2;
      greatest = λ e agreed. omega (arith, chosen.greatest (content_of e) (agree_there e agreed), rank_back back.0 d back.1);
      lowest = λ e agreed rank n small shown. let found = chosen.lowest
          (content_of e) (agree_there e agreed) (omega (arith, rank, rank_back back.0 d back.1)) n small (ap copy_unit shown) in
          let here = copy_parts (content_at image found.0) d found.2 in let same : here.0 ≡ back.0 =
          one_content here.0 back.0 (shown_checks image found.0 here.0 whole here.1)
          (shown_checks image back.2.first back.0 whole back.2.at_first) (here.2 ∙ sym back.1) in (found.0, found.1, here.1 ∙ ap Some same);
    },
  )

pub choice_chosen : ChoiceIsChosen
choice_chosen layout cluster image c whole chosen = chosen_there layout cluster image whole c chosen

pub chosen_choice : ChosenIsChoice
chosen_choice layout cluster image d whole chosen = chosen_back layout cluster image whole d chosen

pub split_split : SplitIsSplit
split_split layout cluster image whole = (
  λ split d agreed. let back = agree_back layout cluster image whole d agreed in split back.0 back.2,
  λ split c agreed. split (content_of c) (agree_there layout cluster image whole c agreed),
)
