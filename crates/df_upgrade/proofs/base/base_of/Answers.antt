-- The superblock of an upgrade obeys the rules.
use Rattle.{std.proofs.Common.{◌≡◌, ◌∙◌, ℕ, List, None, subst, sym}, df_damage.specs.{Surveying.{state_found}, Types.{Surveyed}}}
use Rattle.{df_format.specs.{SuperRules.{fault_of}, declared.superblock.SuperFields.{SuperFields}}, df_rooms.specs.Recorded.{stored_checks}}
use Rattle.df_upgrade.{specs.Base.{base_fields}, proofs.Records.{base_passes}}
use Rattle.df_upgrade.proofs.base.base_of.Goals as goal

-- of fields and checksums that are the survey's
base_is : (y : Surveyed) (fields : SuperFields) (checks : List (List ℕ)) → fields ≡ y.scanned.copies.found.content
    → checks ≡ stored_checks y.scanned.sessions.sessions → record fields {
      version = 2;
      boot = 1;
      head = y.traces.tail.op;
      head_checksum = y.traces.tail.checksum;
      replies = y.traces.replies;
      reply_checksums = checks;
    } ≡ base_fields (state_found y)
base_is y fields checks same stored = λ i. record (same i) {
  version = 2;
  boot = 1;
  head = y.traces.tail.op;
  head_checksum = y.traces.tail.checksum;
  replies = y.traces.replies;
  reply_checksums = stored i;
}

pub returns-clause-fields : goal.returns-clause-fields
returns-clause-fields c = c.fields.ensures.value ∙ c.in-Ok.ensures.fields ∙ base_is c.args.found.now c.fields-fields.result.now
    c.stored_checks.result c.fields-fields.ensures.value c.stored_checks.ensures

pub unreachable-requires : goal.unreachable-requires
unreachable-requires c = let none = subst (λ (f : SuperFields). fault_of f ≡ None)
    (sym (base_is c.args.found.now c.fields-fields.result.now c.stored_checks.result c.fields-fields.ensures.value c.stored_checks.ensures))
    (base_passes c.args.found.now c.requires.old c.fields-fields.ensures.usable c.len-count.ensures.table) in
    let fault = c.in-Err.ensures.fault in cc
