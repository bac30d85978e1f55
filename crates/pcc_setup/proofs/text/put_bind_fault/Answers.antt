use Rattle.pcc_setup.proofs.text.put_bind_fault.Goals as goal

pub returns-in-TwoSubspaces : goal.returns-in-TwoSubspaces
returns-in-TwoSubspaces c = rw c.in-TwoSubspaces.is c.put_numbered-in-TwoSubspaces.ensures

pub returns-in-BadWidth : goal.returns-in-BadWidth
returns-in-BadWidth c = rw c.in-BadWidth.is c.put_numbered-in-BadWidth.ensures
