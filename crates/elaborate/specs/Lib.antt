pub mod Binders
pub mod Pass
pub mod OpsLaws
pub mod BinderLaws
pub mod Right
pub mod Typed
