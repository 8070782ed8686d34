use Rattle.spec_machine.proofs.ChargeEvents.{quota_kept}
use Rattle.spec_machine.proofs.QuotaLaws.{quota_stays}
use Rattle.spec_machine.proofs.machine.quotas_are_not_overdrawn.Goals as goal

pub returns-clause-within : goal.returns-clause-within
returns-clause-within c = quota_kept

pub returns-clause-quota : goal.returns-clause-quota
returns-clause-quota c pack s t event reply ppn d new other steps was now =
    quota_stays pack s t event reply ppn other steps d new was now
