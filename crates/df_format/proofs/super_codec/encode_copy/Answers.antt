use Rattle.std.proofs.{Common.{◌≡◌, ◌≤◌, ◌++◌, ◌∙◌, ℕ, List, [], ap, drop, length, replicate, take, append_assoc, arith}, lemmas.List.{drop_at, length-take-le, take_rest}}
use Rattle.df_base.{specs.Fields.{spelled, check_of}, proofs.Laws.{text-append}}
use Rattle.df_format.{specs.{Super.{copy_bytes, covered_bytes, fields, fields_bytes, named_bytes}, declared.superblock.SuperFields.{SuperFields}}, proofs.CopyParts.{joined}}
use Rattle.df_format.proofs.super_codec.encode_copy.Goals as goal

-- what the checksum covers is written by both
covered_is : (f : SuperFields) (old mid new : List ℕ) → 32 ≤ length old → take 160 mid ≡ take 32 old ++ fields_bytes f
    → new ≡ take 160 mid ++ named_bytes f → drop 32 new ≡ covered_bytes f
unfolding covered_bytes fields_bytes
covered_is f old mid new room front is = ap (λ (l : List ℕ).
    drop 32 l) (is ∙ ap (λ (l : List ℕ). l ++ named_bytes f) front ∙ append_assoc (take 32 old) (fields_bytes f) (named_bytes f))
    ∙ drop_at (take 32 old) (fields_bytes f ++ named_bytes f) 32 (length-take-le 32 old room) ∙ text-append fields f [] (named_bytes f)

pub returns-clause-bytes : goal.returns-clause-bytes
unfolding copy_bytes
returns-clause-bytes c = let put =
    covered_is c.fields-fields.result.now c.args.into.now c.put_fields.new.into c.put_named.new.into (omega (arith, c.requires.room))
    c.put_fields.ensures c.put_named.ensures in
    let covered : drop 32 c.put_named.new.into ≡ covered_bytes c.args.content.now = put ∙ ap covered_bytes c.fields-fields.ensures.value in
    let sum = c.check-sum.ensures ∙ ap check_of (take_rest c.put_named.new.into 32 ∙ covered) in
    joined 32 c.put_front.new.into _ _ (c.put_front.ensures.front
    ∙ ap (λ (l : List ℕ). l ++ (spelled 4 c.args.number ++ replicate 12 0)) sum) (c.put_front.ensures.rest ∙ covered)
    ∙ append_assoc (check_of (covered_bytes c.args.content.now)) _ _ ∙ ap (λ (l : List ℕ). check_of (covered_bytes c.args.content.now)
    ++ l) (append_assoc (spelled 4 c.args.number) (replicate 12 0) (covered_bytes c.args.content.now))
