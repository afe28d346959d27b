mod Common
mod StepLemmas
