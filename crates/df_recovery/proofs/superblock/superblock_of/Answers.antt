-- Why there is no choice, or the choice, once its version and its fields are tested.
use Rattle.std.{specs.{Prelude.{IfNone, IfSome}, Option.{is_some}}, proofs.Common.{rules, ◌≡◌, ◌∙◌, ℕ, Option, None, Some, false, true, ap, length, refl, sym}}
use Rattle.{df_superblock.specs.Blank.{AreBlank, IsFirstWrittenOf}, df_recovery.specs.Opening.{fault_as}}
use Rattle.df_format.specs.declared.superblock.SuperFault.TheVariants.{Version as OtherVersion, BadField as BrokenField}
use Rattle.df_model.specs.declared.errors.OpenError.TheVariants.{NoQuorum, NotFormatted}
use Rattle.df_recovery.proofs.{Asked.{fault_asked, fault_other}, Places.{tells_choice, tells_split, tells_unformatted}, Usable.{tells_field, tells_found, tells_refusal, tells_version}}
use Rattle.df_recovery.proofs.superblock.superblock_of.Goals as goal

none_there : (P : Type 0) (o : Option ℕ) → is_some o ≡ false → IfNone o P → P
none_there P None none is = is
none_there P (Some n) none is = absurd (cc)

some_there : (P : ℕ → Type 0) (o : Option ℕ) → is_some o ≡ true → IfSome o P → (n : ℕ) × P n
some_there P None some is = absurd (cc)
some_there P (Some n) some is = (n, is)

pub returns-then-is_none-clause-told : goal.returns-then-is_none-clause-told
returns-then-is_none-clause-told c = λ told shown copies. tells_refusal c.args.version told NotFormatted
    (tells_unformatted told c.args.copies.now shown
    (none_there (AreBlank c.args.copies.now 4) c.first_written.result c.if-is_none.ensures c.first_written.ensures.none))

pub returns-in-Err-clause-told : goal.returns-in-Err-clause-told
returns-in-Err-clause-told c = let size : length c.in-Err.classes ≡ 4 = search rules in
    let first = some_there (IsFirstWrittenOf c.args.copies.now) c.first_written.result c.if-is_none.ensures c.first_written.ensures.some in
    λ told shown copies. tells_refusal c.args.version told (NoQuorum c.in-Err.classes)
    (tells_split told c.args.copies.now c.in-Err.classes first.0 shown copies size c.in-Err.ensures.classes
    (c.in-Err.ensures.split.0 refl) first.1)

pub returns-then-found-version-clause-told : goal.returns-then-found-version-clause-told
returns-then-found-version-clause-told c = λ told shown copies. let choice = c.in-Ok.choice in
    tells_version c.args.version choice.content.version told choice (fault_other c.args.version choice.content c.if-found-version.true)
    (tells_choice told c.args.copies.now choice shown copies c.in-Ok.ensures.content c.in-Ok.ensures.members)

pub returns-in-Ok-test_fields-clause-told : goal.returns-in-Ok-test_fields-clause-told
returns-in-Ok-test_fields-clause-told c = λ told shown copies. let choice = c.in-Ok.choice in
    let content = c.in-Ok-test_fields.ensures.fields in tells_found c.args.version told _ content (ap (fault_as c.args.version) content
    ∙ fault_asked c.args.version choice.content c.if-found-version.false ∙ c.in-Ok-test_fields.ensures.usable)
    (tells_choice told c.args.copies.now choice shown copies c.in-Ok.ensures.content c.in-Ok.ensures.members)

pub returns-in-Err-Version-clause-told : goal.returns-in-Err-Version-clause-told
returns-in-Err-Version-clause-told c = λ told shown copies. let choice = c.in-Ok.choice in let arm = c.in-Err-Version in
    tells_version c.args.version _ told choice (fault_asked c.args.version choice.content c.if-found-version.false ∙ arm.ensures.fault
    ∙ ap Some (arm.field-0-is ∙ sym (ap OtherVersion arm.found-is)))
    (tells_choice told c.args.copies.now choice shown copies c.in-Ok.ensures.content c.in-Ok.ensures.members)

pub returns-in-Err-BadField-clause-told : goal.returns-in-Err-BadField-clause-told
returns-in-Err-BadField-clause-told c = λ told shown copies. let choice = c.in-Ok.choice in let arm = c.in-Err-BadField in
    tells_field c.args.version _ _ told choice (fault_asked c.args.version choice.content c.if-found-version.false ∙ arm.ensures.fault
    ∙ ap Some (arm.field-0-is ∙ sym (λ i. BrokenField (arm.field-is i) (arm.value-is i))))
    (tells_choice told c.args.copies.now choice shown copies c.in-Ok.ensures.content c.in-Ok.ensures.members)
