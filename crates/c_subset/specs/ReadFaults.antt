-- Why no program is read, by what stopped the reading.
use Rattle.c_tokens.specs.declared.fault.ReadFault.{ReadFault}
use Rattle.c_tokens.specs.declared.fault.ReadFault.TheVariants as read
use Rattle.c_subset.specs.declared.fault.CFault.{CFault}
use Rattle.c_subset.specs.declared.fault.CFault.TheVariants as faults

abbrev pub fault_of : ReadFault → CFault
fault_of read.NotSubset = faults.NotSubset
fault_of read.NoMemory = faults.NoMemory
